-- A blit changes no register but those of used channels and the flag: each is put at its own place.
use Rattle.std.specs.Prelude.{if◌then◌else◌}
use Rattle.word.proofs.Base.{◌≡◌, refl, sym, ◌∙◌, ℕ, ◌+◌, arith, Bool, true, false, ◌||◌, eqb, eqb-true, eqb-false, List, [], ◌∷◌, ◌++◌}
use Rattle.word.proofs.Base.{length, get_or, set, get_or-set_other}
use Rattle.word.specs.declared.types.Pointer.{Pointer}
use Rattle.word.specs.Pointer.{high, low}
use Rattle.word.proofs.ChoiceLaws.{or_left, or_right}
use Rattle.file.specs.Places.{pointer_a, pointer_b, pointer_c, pointer_d, source_a, source_b, source_c, flag}
use Rattle.word.specs.Types.{Uses}
use Rattle.area.specs.Types.{Pointers, Sources}
use Rattle.area.specs.Setup.{setup}
use Rattle.line.specs.declared.types.Drawn.{Drawn}
use Rattle.line.specs.Leave.{leave}
use Rattle.refusal.specs.Touch.{among}
use Rattle.refusal.proofs.RefusalLaws.{Drawing, step_refusal-of-line, refusal-of-none}
use Rattle.refusal.specs.Refusal.{refusal}
use Rattle.file.specs.Pointers.{with_pointer, put_flag}
use Rattle.blit.specs.WriteBack.{put_pointer, put_pointers, put_source, put_sources}
use Rattle.blit.specs.Blit.{Outcome, finished, drawn, area_done, line_done, refused, blit}
use Rattle.blit.specs.ALine.{named_places}
use Rattle.blit.proofs.BlitLaws.{answered-cases}
use Rattle.blit.specs.UnusedStay.{pointer_places, source_places, changeable, UnusedStay}
use Rattle.blit.proofs.OnlyDChanges.{among-of-append}

-- a word set at another place
set-elsewhere : (file : List ℕ) (at place word : ℕ) → eqb at place ≡ false → get_or (set file at word) place 0 ≡ get_or file place 0
set-elsewhere file at place word apart = get_or-set_other file at place word 0 (λ same. eqb-false at place apart (sym same))

with_pointer-elsewhere : (at place : ℕ) (pointer : Pointer) (file : List ℕ) → eqb at place ≡ false → eqb (at + 1) place ≡ false
    → get_or (with_pointer at pointer file) place 0 ≡ get_or file place 0
with_pointer-elsewhere at place pointer file first second =
    set-elsewhere (set file at (high pointer)) (at + 1) place (low pointer) second ∙ set-elsewhere file at place (high pointer) first

put_pointer-elsewhere : (used : Bool) (at place : ℕ) (pointer : Pointer) (file : List ℕ) → among place (pointer_places used at) ≡ false
    → get_or (put_pointer used at pointer file) place 0 ≡ get_or file place 0
unfolding put_pointer among
put_pointer-elsewhere true at place pointer file apart =
    with_pointer-elsewhere at place pointer file (or_left (eqb at place) (eqb (at + 1) place || false) apart)
    (or_left (eqb (at + 1) place) false (or_right (eqb at place) (eqb (at + 1) place || false) apart))
put_pointer-elsewhere false at place pointer file apart = refl

put_source-elsewhere : (used : Bool) (at place word : ℕ) (file : List ℕ) → among place (source_places used at) ≡ false
    → get_or (put_source used at word file) place 0 ≡ get_or file place 0
unfolding put_source among
put_source-elsewhere true at place word file apart = set-elsewhere file at place word (or_left (eqb at place) false apart)
put_source-elsewhere false at place word file apart = refl

among_one : (at place : ℕ) → among place (at ∷ []) ≡ false → eqb at place ≡ false
unfolding among
among_one at place apart = or_left (eqb at place) false apart

-- what isn't among two lists together isn't among either
among-left : (place : ℕ) (first rest : List ℕ) → among place (first ++ rest) ≡ false → among place first ≡ false
among-left place first rest apart = or_left (among place first) (among place rest) (sym (among-of-append place first rest) ∙ apart)

among-right : (place : ℕ) (first rest : List ℕ) → among place (first ++ rest) ≡ false → among place rest ≡ false
among-right place first rest apart = or_right (among place first) (among place rest) (sym (among-of-append place first rest) ∙ apart)

done-elsewhere : (uses : Uses) (pointers : Pointers) (sources : Sources) (allzero : Bool) (file : List ℕ) (place : ℕ)
    → among place (changeable uses) ≡ false
    → get_or (put_flag allzero (put_sources uses sources (put_pointers uses pointers file))) place 0 ≡ get_or file place 0
unfolding changeable put_flag put_sources put_pointers
done-elsewhere uses pointers sources allzero file place apart =
    let a : List ℕ = pointer_places uses.a pointer_a in
    let ab : List ℕ = a ++ pointer_places uses.b pointer_b in
    let abc : List ℕ = ab ++ pointer_places uses.c pointer_c in
    let abcd : List ℕ = abc ++ pointer_places uses.d pointer_d in
    let data-a : List ℕ = abcd ++ source_places uses.a source_a in
    let data-ab : List ℕ = data-a ++ source_places uses.b source_b in
    let data-abc : List ℕ = data-ab ++ source_places uses.c source_c in
    let from-c : among place data-abc ≡ false = among-left place data-abc (flag ∷ []) apart in
    let from-b : among place data-ab ≡ false = among-left place data-ab (source_places uses.c source_c) from-c in
    let from-a : among place data-a ≡ false = among-left place data-a (source_places uses.b source_b) from-b in
    let pointer-d : among place abcd ≡ false = among-left place abcd (source_places uses.a source_a) from-a in
    let pointer-c : among place abc ≡ false = among-left place abc (pointer_places uses.d pointer_d) pointer-d in
    let pointer-b : among place ab ≡ false = among-left place ab (pointer_places uses.c pointer_c) pointer-c in
    set-elsewhere (put_sources uses sources (put_pointers uses pointers file)) flag place (if allzero then 1 else 0)
    (among_one flag place (among-right place data-abc (flag ∷ []) apart))
    ∙ put_source-elsewhere uses.c source_c place sources.c _ (among-right place data-ab (source_places uses.c source_c) from-c)
    ∙ put_source-elsewhere uses.b source_b place sources.b _ (among-right place data-a (source_places uses.b source_b) from-b)
    ∙ put_source-elsewhere uses.a source_a place sources.a _ (among-right place abcd (source_places uses.a source_a) from-a)
    ∙ put_pointer-elsewhere uses.d pointer_d place pointers.d _ (among-right place abc (pointer_places uses.d pointer_d) pointer-d)
    ∙ put_pointer-elsewhere uses.c pointer_c place pointers.c _ (among-right place ab (pointer_places uses.c pointer_c) pointer-c)
    ∙ put_pointer-elsewhere uses.b pointer_b place pointers.b _ (among-right place a (pointer_places uses.b pointer_b) pointer-b)
    ∙ put_pointer-elsewhere uses.a pointer_a place pointers.a _ (among-left place a (pointer_places uses.b pointer_b) pointer-b)

-- a place that isn't among those of a list is none of them
pub apart_from : (place other : ℕ) (list : List ℕ) → among place list ≡ false → among other list ≡ true → eqb other place ≡ false
unfolding among
apart_from place other [] apart in_List = let n : ◌≡◌ {A = ℕ} 0 1 = cc in absurd (omega arith)
apart_from place other (first ∷ rest) apart in_List =
    by_first (eqb first other) refl (apart_from place other rest (or_right (eqb first place) (among place rest) apart))
  where
    by_first : (here : Bool) → eqb first other ≡ here → (among other rest ≡ true → eqb other place ≡ false) → eqb other place ≡ false
    by_first true same later = rw (← (eqb-true first other same)) (or_left (eqb first place) (among place rest) apart)
    by_first false other later = later (rw other at in_List)

-- what a line leaves elsewhere than at the places that it names
pub leave-elsewhere : (end : Drawn) (file : List ℕ) (place : ℕ) → ((named : ℕ) → among named named_places ≡ true → eqb named place ≡ false)
    → get_or (leave end file) place 0 ≡ get_or file place 0
unfolding leave put_flag among
leave-elsewhere end file place apart =
    let at : Pointer = end.dot.spot.at in
    let one : List ℕ = set file (pointer_a + 1) end.dot.accumulator in
    let two : List ℕ = with_pointer pointer_c at one in
    set-elsewhere (with_pointer pointer_d at two) flag place (if end.allzero then 1 else 0) (apart flag refl)
    ∙ with_pointer-elsewhere pointer_d place at two (apart pointer_d refl) (apart (pointer_d + 1) refl)
    ∙ with_pointer-elsewhere pointer_c place at one (apart pointer_c refl) (apart (pointer_c + 1) refl)
    ∙ set-elsewhere file (pointer_a + 1) place end.dot.accumulator (apart (pointer_a + 1) refl)

-- they are among those that a blit with A, C and D may change
named-changeable : (uses : Uses) → Drawing uses → (place : ℕ) → among place (changeable uses) ≡ false → among place named_places ≡ false
unfolding among changeable
named-changeable uses drawing place apart =
    let all : List ℕ = changeable uses in
    rw (
      apart_from place (pointer_a + 1) all apart (rw drawing.a),
      apart_from place pointer_c all apart (rw (drawing.a, drawing.b, drawing.c)),
      apart_from place (pointer_c + 1) all apart (rw (drawing.a, drawing.b, drawing.c)),
      apart_from place pointer_d all apart (rw (drawing.a, drawing.b, drawing.c, drawing.d)),
      apart_from place (pointer_d + 1) all apart (rw (drawing.a, drawing.b, drawing.c, drawing.d)),
      apart_from place flag all apart (rw (drawing.a, drawing.b, drawing.c, drawing.d)),
    ) refl

pub unused-stay : UnusedStay
unfolding blit area_done line_done refused setup
unused-stay memory file size place apart =
    answered-cases (λ (end : Outcome). get_or end.file place 0 ≡ get_or file place 0) (refusal (length memory) file size) memory file size
    (λ lawful lined.
    leave-elsewhere (drawn memory file size).drawn file place
    (λ named. apart_from place named named_places
    (named-changeable (setup file).uses (step_refusal-of-line (length memory) file size lined (refusal-of-none (length memory) file size lawful)) place apart)))
    (λ lawful area.
    done-elsewhere (setup file).uses (finished memory file size).flow.pointers (finished memory file size).flow.sources
    (finished memory file size).flow.allzero file place apart)
    refl
