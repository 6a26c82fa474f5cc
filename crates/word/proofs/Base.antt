-- What every law is written in: equations, numbers, truth and its tests, lists, and the rules that `omega` and `search`
-- go by.
pub use mathlib.Core.Path.{◌≡◌, refl, sym, ap, ap₂, subst, ◌∙◌}
pub use Prim.Native.Nat.{ℕ, zero, suc, ◌+◌, ◌-◌, ◌*◌, ◌/◌, ◌%◌, ◌^◌, ◌<◌, ◌≤◌}
pub use native.Mathlib.Nat.{zero-add, add-zero, add-suc, suc-mul, add-mul, mul-le-mul, mul-le-mul_right, mod-lt, mod-eq_of_lt}
pub use native.Mathlib.Numerals.{add-one, one-add, sub-one}
pub use native.Mathlib.Decide.{dec_lt}
pub use native.Mathlib.Omega.{arith}
pub use mathlib.Core.Bool.{Bool, true, false, ◌&&◌, ◌||◌, not}
pub use lib.Dec.{T, eqb, leb, ltb, eqb→eq}
pub use borrow.Author.Tests.{eq-eqb, ne_eqb, eqb-true, eqb-false, le-leb, lt-leb, leb-true, leb-false, lt-ltb, le-ltb, ltb-true, not-true, not-false}
pub use borrow.Author.Rules.{rules}
pub use mathlib.Core.List.{List, [], ◌∷◌, ◌++◌}
pub use lib.ListN.{length, get_or, set, take, drop, length-set, length-append, get_or-eq_default as List·get_or-eq-default, drop_of_length-le}
pub use lib.Seq.{get_or-set_same, get_or-set_other, set_out, drop-cons, length-take-le}
pub use lib.Bits.{bit_and, bit_or, bit_xor}
