-- Laws of a settled blit's stores when they are run: they leave memory with each of them set in turn, and count as many words.
use Rattle.word.proofs.Base.{◌≡◌, ap, ◌∙◌, ℕ, zero, suc, ◌+◌, ◌*◌, arith, Bool, List, [], ◌∷◌, ◌++◌, length, set}
use Rattle.word.proofs.Base.{length-set, length-append}
use mathlib.Core.List.{append_assoc}
use Rattle.runner.specs.Run.{machine, run_from}
use Rattle.stores.specs.Stores.{Store}
use Rattle.stores.proofs.OnMemoryLaws.{stored_into, Inside}
use Rattle.settled.specs.Words.{store_words, stores_words}
use Rattle.settled.proofs.StoreLaws.{run-of-store}

pub stores_words-length : (list : List Store) → length (stores_words list) ≡ 3 * length list
unfolding stores_words
stores_words-length [] = omega arith
stores_words-length (one ∷ rest) = let more = stores_words-length rest in omega (arith, length-append (store_words one.to one.value) (stores_words rest))

-- the place after so many stores
unfoldable pub after_stores : (many at : ℕ) → ℕ
after_stores zero at = at
after_stores (suc many) at = after_stores many (at + 1 + 1 + 1)

pub run-of-stores : (list : List Store) (at : ℕ) (more memory file : List ℕ) (stored : ℕ) (round : Bool) → Inside (length memory) list
    → run_from at (stores_words list ++ more) (machine memory file stored round)
    ≡ run_from (after_stores (length list) at) more (machine (stored_into list memory) file (stored + length list) round)
unfolding stores_words stored_into Inside after_stores
run-of-stores [] at more memory file stored round inside = ap (λ (count : ℕ). run_from at more (machine memory file count round)) (omega arith)
run-of-stores (one ∷ rest) at more memory file stored round inside =
    let next : List ℕ = set memory one.to.word one.value in
    ap (λ (words : List ℕ). run_from at words (machine memory file stored round)) (append_assoc (store_words one.to one.value) (stores_words rest) more)
    ∙ run-of-store at one.value one.to (stores_words rest ++ more) memory file stored round inside.0 inside.1
    ∙ run-of-stores rest (at + 1 + 1 + 1) more next file (stored + 1) round (rw (length-set memory one.to.word one.value) inside.2)
    ∙ ap (λ (count : ℕ). run_from (after_stores (length rest) (at + 1 + 1 + 1)) more (machine (stored_into rest next) file count round)) (omega arith)
