-- Laws of knowledge that agrees with a register file: every register that is known holds its number.
use Rattle.std.specs.Prelude.{Option, Some, None}
use Rattle.word.proofs.Base.{◌≡◌, refl, sym, ap, ◌∙◌, ℕ, ◌+◌, ◌<◌, dec_lt, arith, Bool, true, false, eqb, eqb-true}
use Rattle.word.proofs.Base.{eqb-false, List, length, get_or, set, List·get_or-eq-default, get_or-set_same, get_or-set_other}
use Rattle.word.proofs.Base.{set_out}
use Rattle.word.specs.declared.types.Pointer.{Pointer}
use Rattle.word.specs.Pointer.{high, low}
use Rattle.file.specs.Places.{blitter_length, flag, file_length}
use Rattle.blit.specs.WriteBack.{put_pointer, put_source}
use Rattle.learning.specs.Learn.{forget_pointer, forget_source}

unfoldable pub Agrees : (known : List (Option ℕ)) (file : List ℕ) → Type 0
Agrees known file = (place value : ℕ) → get_or known place None ≡ Some value → get_or file place 0 ≡ value

-- a register that is known is one of the Blitter's
pub known-lt : (known : List (Option ℕ)) (place value : ℕ) → length known ≡ blitter_length → get_or known place None ≡ Some value → place < blitter_length
known-lt known place value long is = by_place (dec_lt place blitter_length)
  where
    by_place : Dec (place < blitter_length) → place < blitter_length
    by_place (yes inside) = inside
    by_place (no outside) =
        let none : get_or known place None ≡ None = List·get_or-eq-default known None (omega arith) in
        let wrong : ◌≡◌ {A = ℕ} 0 1 = cc in
        absurd (omega arith)

-- a register that is written becomes known; COPCON and the colours, which stand past the Blitter's, don't
pub agrees-of-set : (known : List (Option ℕ)) (file : List ℕ) (at word : ℕ) → length known ≡ blitter_length → length file ≡ file_length
    → Agrees known file → Agrees (set known at (Some word)) (set file at word)
unfolding Agrees
agrees-of-set known file at word long full agrees place value is = by_place (eqb at place) refl (dec_lt at blitter_length)
  where
    by_place : (here : Bool) → eqb at place ≡ here → Dec (at < blitter_length) → get_or (set file at word) place 0 ≡ value
    by_place false apart inside =
        get_or-set_other file at place word 0 (λ same. eqb-false at place apart (sym same))
        ∙ agrees place value (sym (get_or-set_other known at place (Some word) None (λ same. eqb-false at place apart (sym same))) ∙ is)
    by_place true same (yes inside) =
        let here : at ≡ place = eqb-true at place same in
        let held : get_or (set known at (Some word)) at None ≡ Some word = get_or-set_same known at (Some word) None (omega arith) in
        let told : get_or (set known at (Some word)) at None ≡ Some value =
        ap (λ (p : ℕ). get_or (set known at (Some word)) p None) here ∙ is in
        let values : word ≡ value = cc in
        ap (λ (p : ℕ). get_or (set file at word) p 0) (sym here) ∙ get_or-set_same file at word 0 (omega arith) ∙ values
    by_place true same (no outside) =
        let here : at ≡ place = eqb-true at place same in
        let kept : set known at (Some word) ≡ known = set_out known at (Some word) (omega arith) in
        let told : get_or known place None ≡ Some value = rw (← kept) is in
        let inside : place < blitter_length = known-lt known place value long told in
        absurd (omega arith)

-- nor is the flag tracked
pub agrees-of-flag : (known : List (Option ℕ)) (file : List ℕ) (word : ℕ) → length known ≡ blitter_length → Agrees known file → Agrees known (set file flag word)
unfolding Agrees
agrees-of-flag known file word long agrees place value is =
    let inside : place < blitter_length = known-lt known place value long is in
    get_or-set_other file flag place word 0 (λ same. omega arith) ∙ agrees place value is

-- what is forgotten may change, and what may not change stays
forget-one : (known : List (Option ℕ)) (at place value : ℕ) → get_or (set known at None) place None ≡ Some value
    → (at ≡ place → ⊥) × (get_or known place None ≡ Some value)
forget-one known at place value is = by_place (eqb at place) refl (dec_lt at (length known))
  where
    by_place : (here : Bool) → eqb at place ≡ here → Dec (at < length known) → (at ≡ place → ⊥) × (get_or known place None ≡ Some value)
    by_place false apart inside =
        (eqb-false at place apart, sym (get_or-set_other known at place None None (λ same. eqb-false at place apart (sym same))) ∙ is)
    by_place true same (yes inside) =
        let here : at ≡ place = eqb-true at place same in
        let held : get_or (set known at None) at None ≡ None = get_or-set_same known at None None inside in
        let told : get_or (set known at None) at None ≡ Some value =
        ap (λ (p : ℕ). get_or (set known at None) p None) here ∙ is in
        let wrong : ◌≡◌ {A = ℕ} 0 1 = cc in
        absurd (omega arith)
    by_place true same (no outside) =
        let here : at ≡ place = eqb-true at place same in
        let none : get_or (set known at None) place None ≡ None =
        rw (set_out known at None (omega arith)) (List·get_or-eq-default known None (omega arith)) in
        let wrong : ◌≡◌ {A = ℕ} 0 1 = cc in
        absurd (omega arith)

pub agrees-of-source : (known : List (Option ℕ)) (file : List ℕ) (may uses : Bool) (at word : ℕ) → (uses ≡ true → may ≡ true)
    → Agrees known file → Agrees (forget_source may at known) (put_source uses at word file)
unfolding Agrees forget_source put_source
agrees-of-source known file true true at word only agrees place value is =
    let kept = forget-one known at place value is in
    get_or-set_other file at place word 0 (λ same. kept.0 (sym same)) ∙ agrees place value kept.1
agrees-of-source known file true false at word only agrees place value is = agrees place value (forget-one known at place value is).1
agrees-of-source known file false false at word only agrees place value is = agrees place value is
agrees-of-source known file false true at word only agrees place value is =
    let impossible = only refl in let wrong : ◌≡◌ {A = ℕ} 0 1 = cc in absurd (omega arith)

pub agrees-of-pointer : (known : List (Option ℕ)) (file : List ℕ) (may uses : Bool) (at : ℕ) (pointer : Pointer) → (uses ≡ true → may ≡ true)
    → Agrees known file → Agrees (forget_pointer may at known) (put_pointer uses at pointer file)
unfolding Agrees forget_pointer put_pointer
agrees-of-pointer known file true true at pointer only agrees place value is =
    let second = forget-one (set known at None) (at + 1) place value is in
    let first = forget-one known at place value second.1 in
    get_or-set_other (set file at (high pointer)) (at + 1) place (low pointer) 0 (λ same. second.0 (sym same))
    ∙ get_or-set_other file at place (high pointer) 0 (λ same. first.0 (sym same))
    ∙ agrees place value first.1
agrees-of-pointer known file true false at pointer only agrees place value is =
    agrees place value (forget-one known at place value (forget-one (set known at None) (at + 1) place value is).1).1
agrees-of-pointer known file false false at pointer only agrees place value is = agrees place value is
agrees-of-pointer known file false true at pointer only agrees place value is =
    let impossible = only refl in let wrong : ◌≡◌ {A = ℕ} 0 1 = cc in absurd (omega arith)

-- of a pointer's registers a line writes A's low half alone
pub agrees-of-low : (known : List (Option ℕ)) (file : List ℕ) (may : Bool) (at word : ℕ) → may ≡ true
    → Agrees known file → Agrees (forget_pointer may at known) (set file (at + 1) word)
unfolding Agrees forget_pointer
agrees-of-low known file true at word only agrees place value is =
    let second = forget-one (set known at None) (at + 1) place value is in
    get_or-set_other file (at + 1) place word 0 (λ same. second.0 (sym same))
    ∙ agrees place value (forget-one known at place value second.1).1
agrees-of-low known file false at word only agrees place value is = let wrong : ◌≡◌ {A = ℕ} 0 1 = cc in absurd (omega arith)
