-- Laws of a settled blit's stores laid into the output from the run that holds them.
use Rattle.word.proofs.Base.{◌≡◌, refl, sym, ap, ◌∙◌, ℕ, suc, ◌+◌, ◌*◌, ◌<◌, ◌≤◌, arith, Bool, List, ◌∷◌}
use Rattle.word.proofs.Base.{◌++◌, length, length-append, get_or, take, drop, drop-cons, drop_of_length-le}
use Rattle.std.proofs.Math.Seq.{take-append_seam}
use Rattle.word.specs.declared.types.Pointer.{Pointer}
use Rattle.word.specs.Laid.{laid}
use Rattle.word.specs.Size.{height, width}
use Rattle.word.proofs.LaidLaws.{laid-of-append, laid-in-front}
use Rattle.stores.specs.Stores.{Store, stores, all_zero, final_d}
use Rattle.stores.proofs.StoresLaws.{stores-length}
use Rattle.settled.specs.Words.{store_words, stores_words, pointer_words, flag_words, settled_words}
use Rattle.settled.proofs.RunLaws.{stores_words-length}

-- a turn of the loop, and its end
module _ (list : List Store) (out whole : List ℕ) (place at : ℕ) (so_far : laid (stores_words (drop place list)) at out ≡ whole) where
  pub stores-turn : (none : Store) (next : List ℕ) (to : ℕ) → place < length list
      → next ≡ laid (store_words (get_or list place none).to (get_or list place none).value) at out → to ≡ at + 3
      → laid (stores_words (drop (place + 1) list)) to next ≡ whole
  unfolding stores_words
  stores-turn none next to inside lays moves =
      let one : Store = get_or list place none in
      let same : suc place ≡ place + 1 = omega arith in
      let split : drop place list ≡ one ∷ drop (place + 1) list = drop-cons list place none inside ∙ rw same refl in
      rw (lays, moves)
      (sym (laid-of-append (store_words one.to one.value) (stores_words (drop (place + 1) list)) at out)
      ∙ sym (ap (λ (rest : List Store). laid (stores_words rest) at out) split)
      ∙ so_far)

  pub stores-end : length list ≤ place → out ≡ whole
  unfolding stores_words laid
  stores-end past = sym (ap (λ (rest : List Store). laid (stores_words rest) at out) (drop_of_length-le list past)) ∙ so_far

-- the run as the blit's stores were laid into it: they stand in front
pub stores-of-run : (file : List ℕ) (size at many : ℕ) (first run : List Store) (out next : List ℕ)
    → length first ≡ 64 → run ≡ laid (stores file size) 0 first → many ≤ 64 → many ≡ height size * width size
    → next ≡ laid (stores_words (take many run)) at out
    → next ≡ laid (stores_words (stores file size)) at out
stores-of-run file size at many first run out next room puts few is-many lays =
    let list : List Store = stores file size in
    let long : length list ≡ many = stores-length file size ∙ sym is-many in
    lays
    ∙ ap (λ (steps : List Store). laid (stores_words steps) at out)
    (rw (puts ∙ laid-in-front list first (omega (arith, long, room, few)), ← long) (take-append_seam list (drop (length list) first)))

-- all the words of a settled blit, and where they end
module _ (file : List ℕ) (size many : ℕ) (is-many : many ≡ height size * width size) where
  settled-long : length (stores_words (stores file size)) ≡ 3 * many
  settled-long =
      stores_words-length (stores file size)
      ∙ ap (λ (n : ℕ). 3 * n) (stores-length file size ∙ sym is-many)

  pub settled-of-parts : (at to : ℕ) (out next last : List ℕ) (end : Pointer) (allzero : Bool)
      → next ≡ laid (stores_words (stores file size)) at out → to ≡ at + 3 * many
      → allzero ≡ all_zero (stores file size) → end ≡ final_d file size
      → last ≡ laid (pointer_words end ++ flag_words allzero) to next
      → last ≡ laid (settled_words file size) at out
  unfolding settled_words
  settled-of-parts at to out next last end allzero lays moves flags ends finishes =
      let list : List Store = stores file size in
      finishes
      ∙ rw (ends, flags, lays, moves, ← settled-long)
      (sym (laid-of-append (stores_words list) (pointer_words (final_d file size) ++ flag_words (all_zero list)) at out))

  pub settled-end : (at to last : ℕ) → to ≡ at + 3 * many → last ≡ to + 5 → last ≡ at + length (settled_words file size)
  unfolding settled_words
  settled-end at to last moves ends =
      omega (
        arith,
        settled-long,
        length-append
            (stores_words (stores file size))
            (pointer_words (final_d file size) ++ flag_words (all_zero (stores file size))),
      )

-- how many words a settled blit has
pub many-of-size : (size rows words : ℕ) → rows ≡ height size → words ≡ width size → rows * words ≡ height size * width size
many-of-size size rows words tall wide = rw (tall, wide)
