-- `blit::registers::put_pointers` meets its contract: channel after channel.
use Rattle.word.proofs.Base.{◌≡◌, refl, ℕ, List}
use Rattle.file.specs.Places.{pointer_a, pointer_b, pointer_c, pointer_d}
use Rattle.word.specs.Types.{Uses}
use Rattle.area.specs.Types.{Pointers}
use Rattle.blit.specs.WriteBack.{put_pointer, put_pointers}
use Rattle.blit.proofs.registers.put_pointers.Goals as goal

one_by_one : (uses : Uses) (pointers : Pointers) (file one two three four : List ℕ)
    → one ≡ put_pointer uses.a pointer_a pointers.a file → two ≡ put_pointer uses.b pointer_b pointers.b one
    → three ≡ put_pointer uses.c pointer_c pointers.c two → four ≡ put_pointer uses.d pointer_d pointers.d three
    → four ≡ put_pointers uses pointers file
unfolding put_pointers
one_by_one uses pointers file one two three four a b c d = rw (d, c, b, a) refl

pub returns : goal.returns
returns c = search one_by_one
