-- `blit::registers::put_sources` meets its contract: source after source.
use Rattle.word.proofs.Base.{◌≡◌, refl, ℕ, List}
use Rattle.file.specs.Places.{source_a, source_b, source_c}
use Rattle.word.specs.Types.{Uses}
use Rattle.area.specs.Types.{Sources}
use Rattle.blit.specs.WriteBack.{put_source, put_sources}
use Rattle.blit.proofs.registers.put_sources.Goals as goal

one_by_one : (uses : Uses) (sources : Sources) (file one two three : List ℕ)
    → one ≡ put_source uses.a source_a sources.a file → two ≡ put_source uses.b source_b sources.b one
    → three ≡ put_source uses.c source_c sources.c two
    → three ≡ put_sources uses sources file
unfolding put_sources
one_by_one uses sources file one two three a b c = rw (c, b, a) refl

pub returns : goal.returns
returns c = search one_by_one
