-- Laws of what the folder learns: after every step its knowledge agrees with what the step leaves in the register file.
use Rattle.std.specs.Prelude.{if◌then◌else◌, Option, Some, None, is_some}
use Rattle.word.proofs.Base.{◌≡◌, refl, sym, ap, ◌∙◌, ℕ, arith, Bool, true, false, List, length, length-set}
use Rattle.file.specs.Places.{blitter_length, control0, pointer_a, pointer_b, pointer_c, pointer_d, source_a, source_b, source_c}
use Rattle.word.specs.declared.types.Pointer.{Pointer}
use Rattle.word.specs.Types.{Uses}
use Rattle.area.specs.Types.{Pointers, Sources}
use Rattle.area.specs.Setup.{setup}
use Rattle.file.specs.File.{con0}
use Rattle.word.specs.Control.{uses}
use Rattle.area.specs.Flow.{start}
use Rattle.line.specs.declared.types.Drawn.{Drawn}
use Rattle.line.specs.Leave.{leave}
use Rattle.refusal.specs.Refusal.{step_refusal}
use Rattle.refusal.proofs.RefusalLaws.{step_refusal-of-line}
use Rattle.file.specs.Pointers.{put_flag}
use Rattle.blit.specs.WriteBack.{put_pointer, put_pointers, put_source, put_sources}
use Rattle.blit.specs.Blit.{Outcome, finished, drawn, area_done, line_done, refused, blit_step}
use Rattle.blit.proofs.BlitLaws.{answered-cases}
use Rattle.knowledge.specs.Knowledge.{known_at, number}
use Rattle.learning.specs.Learn.{may_use, forget_pointer, forget_source, forget_used, forgotten}
use Rattle.demands.proofs.AgreesLaws.{Agrees, agrees-of-flag, agrees-of-source, agrees-of-pointer, agrees-of-low}

-- the channels that a blit uses are among those it may use
pub record Covers (may uses : Uses) : Type 0 where
  pub a : uses.a ≡ true → may.a ≡ true
  pub b : uses.b ≡ true → may.b ≡ true
  pub c : uses.c ≡ true → may.c ≡ true
  pub d : uses.d ≡ true → may.d ≡ true

covers-itself : (may uses : Uses) → uses ≡ may → Covers may uses
covers-itself may uses same =
    record {
      a = λ used. sym (ap (λ (u : Uses). u.a) same) ∙ used;
      b = λ used. sym (ap (λ (u : Uses). u.b) same) ∙ used;
      c = λ used. sym (ap (λ (u : Uses). u.c) same) ∙ used;
      d = λ used. sym (ap (λ (u : Uses). u.d) same) ∙ used;
    }

pub may_use-covers : (known : List (Option ℕ)) (file : List ℕ) → Agrees known file → Covers (may_use known) (uses (con0 file))
unfolding Agrees may_use
may_use-covers known file agrees = by-known (known_at known control0) refl
  where
    by-known : (held : Option ℕ) → known_at known control0 ≡ held
        → Covers (if is_some held then uses (number held) else record { a = true; b = true; c = true; d = true }) (uses (con0 file))
    by-known (Some value) is = covers-itself (uses value) (uses (con0 file)) (ap uses (agrees control0 value is))
    by-known None is = record { a = λ used. refl; b = λ used. refl; c = λ used. refl; d = λ used. refl }

-- what the blit writes back and what is forgotten
agrees-of-forget_used : (known : List (Option ℕ)) (file : List ℕ) (may uses : Uses) (at : Pointers) (sources : Sources) → Covers may uses
    → Agrees known file → Agrees (forget_used may known) (put_sources uses sources (put_pointers uses at file))
unfolding forget_used put_sources put_pointers
agrees-of-forget_used known file may uses at sources covers agrees =
    agrees-of-source _ _ may.c uses.c source_c sources.c covers.c
    (agrees-of-source _ _ may.b uses.b source_b sources.b covers.b
    (agrees-of-source _ _ may.a uses.a source_a sources.a covers.a
    (agrees-of-pointer _ _ may.d uses.d pointer_d at.d covers.d
    (agrees-of-pointer _ _ may.c uses.c pointer_c at.c covers.c
    (agrees-of-pointer _ _ may.b uses.b pointer_b at.b covers.b
    (agrees-of-pointer known file may.a uses.a pointer_a at.a covers.a agrees))))))

forget_source-keeps-length : (used : Bool) (at : ℕ) (known : List (Option ℕ)) → length (forget_source used at known) ≡ length known
unfolding forget_source
forget_source-keeps-length true at known = length-set known at None
forget_source-keeps-length false at known = refl

forget_pointer-keeps-length : (used : Bool) (at : ℕ) (known : List (Option ℕ)) → length (forget_pointer used at known) ≡ length known
unfolding forget_pointer
forget_pointer-keeps-length true at known = simp length-set
forget_pointer-keeps-length false at known = refl

forget_used-keeps-length : (may : Uses) (known : List (Option ℕ)) → length (forget_used may known) ≡ length known
unfolding forget_used
forget_used-keeps-length may known = simp (forget_source-keeps-length, forget_pointer-keeps-length)

pub forgotten-keeps-length : (known : List (Option ℕ)) → length (forgotten known) ≡ length known
unfolding forgotten
forgotten-keeps-length known = forget_used-keeps-length (may_use known) known

never : {Goal : Type 0} → ◌≡◌ {A = Bool} false true → Goal
never wrong = let n : ◌≡◌ {A = ℕ} 0 1 = cc in absurd (omega arith)

-- a blit that is refused writes nothing back
agrees-of-nothing : (known : List (Option ℕ)) (file : List ℕ) (may : Uses) (at : Pointers) (sources : Sources)
    → Agrees known file → Agrees (forget_used may known) file
unfolding put_sources put_pointers put_source put_pointer
agrees-of-nothing known file may at sources agrees =
    agrees-of-forget_used known file may (record { a = false; b = false; c = false; d = false }) at sources
    (record { a = never; b = never; c = never; d = never }) agrees

-- a line writes A's low half and C's and D's pointers back, and no data register
agrees-of-line : (known : List (Option ℕ)) (file : List ℕ) (may : Uses) (end : Drawn) → length known ≡ blitter_length
    → may.a ≡ true → may.c ≡ true → may.d ≡ true
    → Agrees known file → Agrees (forget_used may known) (leave end file)
unfolding forget_used leave put_flag put_pointer put_source
agrees-of-line known file may end long a c d agrees =
    let at : Pointer = end.dot.spot.at in
    agrees-of-flag _ _ _ (forget_used-keeps-length may known ∙ long)
    (agrees-of-source _ _ may.c false source_c 0 never
    (agrees-of-source _ _ may.b false source_b 0 never
    (agrees-of-source _ _ may.a false source_a 0 never
    (agrees-of-pointer _ _ may.d true pointer_d at (λ _. d)
    (agrees-of-pointer _ _ may.c true pointer_c at (λ _. c)
    (agrees-of-pointer _ _ may.b false pointer_b at never
    (agrees-of-low known file may.a pointer_a end.dot.accumulator a agrees)))))))

-- a kept blit, done or refused
pub agrees-of-kept : (known : List (Option ℕ)) (memory file : List ℕ) (size : ℕ) → length known ≡ blitter_length
    → Agrees known file → Agrees (forgotten known) (blit_step memory file size).file
unfolding blit_step area_done line_done refused put_flag forgotten setup
agrees-of-kept known memory file size long agrees =
    let covers : Covers (may_use known) (uses (con0 file)) = may_use-covers known file agrees in
    answered-cases (λ (end : Outcome). Agrees (forget_used (may_use known) known) end.file) (step_refusal (length memory) file size) memory file size
    (λ lawful lined.
    let drawing = step_refusal-of-line (length memory) file size lined lawful in
    agrees-of-line known file (may_use known) (drawn memory file size).drawn long
    (covers.a drawing.a) (covers.c drawing.c) (covers.d drawing.d) agrees)
    (λ lawful area.
    agrees-of-flag (forget_used (may_use known) known) _ _ (forgotten-keeps-length known ∙ long)
    (agrees-of-forget_used known file (may_use known) (uses (con0 file)) (finished memory file size).flow.pointers (finished memory file size).flow.sources
    covers agrees))
    (agrees-of-nothing known file (may_use known) (start file).pointers (start file).sources agrees)
