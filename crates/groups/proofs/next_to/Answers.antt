-- `groups::next_to` meets its contract: arithmetic tells of both places whether they are neighbours.
use Rattle.word.proofs.Base.{◌≡◌, sym, ℕ, ◌+◌, arith, true, false, eqb, eq-eqb, ne_eqb}
use Rattle.groups.proofs.next_to.Goals as goal

next-to-when-next : (before place : ℕ) → before + 1 ≡ place → true ≡ eqb (before + 1) place
next-to-when-next before place same = sym (eq-eqb (before + 1) place same)

next-to-when-apart : (before place : ℕ) → (before + 1 ≡ place → ⊥) → false ≡ eqb (before + 1) place
next-to-when-apart before place other = sym (ne_eqb (before + 1) place other)

pub returns-then-place-before : goal.returns-then-place-before
returns-then-place-before c = next-to-when-apart c.args.before c.args.place (λ same. omega arith)

pub returns-then-place-before-lt2 : goal.returns-then-place-before-lt2
returns-then-place-before-lt2 c = next-to-when-next c.args.before c.args.place (omega arith)

pub returns : goal.returns
returns c = next-to-when-apart c.args.before c.args.place (λ same. omega arith)
