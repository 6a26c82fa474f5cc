-- Laws of a first word: what the tests on it, in the decoder's order, say of its kind.
use Rattle.std.specs.Prelude.{Some, None}
use Rattle.word.proofs.Base.{◌≡◌, ℕ, ◌-◌, ◌<◌, ◌≤◌, arith, eq-eqb, ne_eqb, le-leb, lt-leb, lt-ltb, le-ltb}
use Rattle.file.specs.File.{is_register, place}
use Rattle.file.specs.Places.{flag}
use Rattle.job.specs.declared.types.Kind.{Kind}
use Rattle.job.specs.Kind.{kind}

pub kind-when-register : (first at : ℕ) → at ≡ place first → at < flag → Some (Kind.Register at) ≡ kind first
unfolding kind is_register
kind-when-register first at stands inside = rw (← stands, lt-ltb at flag inside)

-- what no offset of the table begins; at is where the table's search ends
module _ (first at : ℕ) (stands : at ≡ place first) (none : flag ≤ at) where
  pub kind-when-size : first ≡ 0x058 → Some Kind.Size ≡ kind first
  unfolding kind is_register
  kind-when-size same = rw (← stands, le-ltb at flag none, eq-eqb first 0x058 same)

  pub kind-when-store : 0x8000 ≤ first → first < 0x8008 → Some (Kind.Store (first - 0x8000)) ≡ kind first
  unfolding kind is_register
  kind-when-store from to =
      rw (
        ← stands,
        le-ltb at flag none,
        ne_eqb first 0x058 (λ same. omega arith),
        le-leb 0x8000 first from,
        le-leb first 0x8007 (omega arith),
      )

  pub kind-when-clear : first ≡ 0xC000 → Some (Kind.Flag 0) ≡ kind first
  unfolding kind is_register
  kind-when-clear same =
      rw (
        ← stands,
        le-ltb at flag none,
        ne_eqb first 0x058 (λ size. omega arith),
        le-leb 0x8000 first (omega arith),
        lt-leb first 0x8007 (omega arith),
        eq-eqb first 0xC000 same,
      )

  pub kind-when-set : first ≡ 0xC001 → Some (Kind.Flag 1) ≡ kind first
  unfolding kind is_register
  kind-when-set same =
      rw (
        ← stands,
        le-ltb at flag none,
        ne_eqb first 0x058 (λ size. omega arith),
        le-leb 0x8000 first (omega arith),
        lt-leb first 0x8007 (omega arith),
        ne_eqb first 0xC000 (λ clear. omega arith),
        eq-eqb first 0xC001 same,
      )

  module _ (other : first ≡ 0x058 → ⊥) where
    pub kind-when-low : first < 0x8000 → None ≡ kind first
    unfolding kind is_register
    kind-when-low low =
        rw (
          ← stands,
          le-ltb at flag none,
          ne_eqb first 0x058 other,
          lt-leb 0x8000 first low,
          ne_eqb first 0xC000 (λ same. omega arith),
          ne_eqb first 0xC001 (λ same. omega arith),
        )

    pub kind-when-high : (first ≡ 0xC000 → ⊥) → (first ≡ 0xC001 → ⊥) → 0x8008 ≤ first → None ≡ kind first
    unfolding kind is_register
    kind-when-high clear set past =
        rw (
          ← stands,
          le-ltb at flag none,
          ne_eqb first 0x058 other,
          le-leb 0x8000 first (omega arith),
          lt-leb first 0x8007 (omega arith),
          ne_eqb first 0xC000 clear,
          ne_eqb first 0xC001 set,
        )
