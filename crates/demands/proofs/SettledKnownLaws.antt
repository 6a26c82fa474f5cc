-- Laws of a settled blit: the file of the known numbers agrees with the register file on all that the blit depends on.
use Rattle.std.specs.Prelude.{Option}
use Rattle.word.proofs.Base.{◌≡◌, refl, sym, ap, ◌∙◌, ℕ, ◌+◌, ◌*◌, ◌<◌, arith, Bool, true, false, ◌&&◌, ◌||◌, not, eqb, leb}
use Rattle.word.proofs.Base.{eqb-true, not-true, List, length, get_or}
use lib.Dec.{lit<}
use Rattle.word.specs.Size.{height, width}
use Rattle.word.proofs.ChoiceLaws.{and_left, and_right}
use Rattle.file.specs.Places.{blitter_length, control0, control1, first_mask, last_mask, pointer_d, modulo_d, source_a, source_b, source_c}
use Rattle.word.specs.Types.{Uses}
use Rattle.area.specs.Setup.{setup}
use Rattle.file.specs.File.{con0, con1}
use Rattle.word.specs.Control.{uses, function, line}
use Rattle.refusal.specs.Refusal.{step_refusal}
use Rattle.round.specs.Round.{goes_round}
use Rattle.blit.specs.Blit.{Outcome, area_done, line_done, refused, blit_step}
use Rattle.blit.proofs.BlitLaws.{answered-either}
use Rattle.depends.specs.Depends.{counts}
use Rattle.knowledge.specs.Knowledge.{known_at, number, numbers}
use Rattle.knowledge.proofs.KnowledgeLaws.{numbers-at, known-is-number}
use Rattle.stores.proofs.OnlyDLaws.{OnlyD}
use Rattle.settled.proofs.AgreeLaws.{Agree, goes_round-alike}
use Rattle.settled.proofs.SettledLaws.{settled-is-otherwise, settled-never-goes-round}
use Rattle.settled.proofs.WordsLaws.{area-of-only-d}
use Rattle.settled.specs.Settled.{has, controls_known, only_d_used, sources_known, otherwise_settled, settled}
use Rattle.demands.specs.ALineIsNeverSettled.{ALineIsNeverSettled}
use Rattle.demands.specs.ASettledBlitNeverGoesRound.{ASettledBlitNeverGoesRound}
use Rattle.demands.proofs.AgreesLaws.{Agrees}

-- a condition that is asked for holds
asked : (when holds : Bool) → (not when || holds) ≡ true → when ≡ true → holds ≡ true
asked true holds either needed = either
asked false holds either needed = let n : ◌≡◌ {A = ℕ} 0 1 = cc in absurd (omega arith)

-- a known register's number stands in the file
pub known-agrees : (known : List (Option ℕ)) (file : List ℕ) (place : ℕ) → length known ≡ blitter_length → place < blitter_length → Agrees known file
    → has known place ≡ true → get_or (numbers known) place 0 ≡ get_or file place 0
unfolding Agrees
known-agrees known file place long inside agrees is =
    numbers-at known place (omega (arith, long, inside))
    ∙ sym (agrees place (number (known_at known place)) (known-is-number (known_at known place) is))

module _ (n : ℕ) (known : List (Option ℕ)) (size : ℕ) (holds : settled n known size ≡ true) where
  -- the conditions, one by one
  otherwise : otherwise_settled n known size ≡ true
  otherwise = settled-is-otherwise n known size holds

  four : (controls_known known && only_d_used (con0 (numbers known)) && eqb (step_refusal n (numbers known) size) 0 && leb (height size * width size) 64) ≡ true
  unfolding otherwise_settled
  four = and_left _ (sources_known (function (con0 (numbers known))) known) otherwise

  sources : sources_known (function (con0 (numbers known))) known ≡ true
  unfolding otherwise_settled
  sources = and_right (controls_known known && only_d_used (con0 (numbers known)) && eqb (step_refusal n (numbers known) size) 0 && leb (height size * width size) 64) _ otherwise

  three : (controls_known known && only_d_used (con0 (numbers known)) && eqb (step_refusal n (numbers known) size) 0) ≡ true
  three = and_left (controls_known known && only_d_used (con0 (numbers known)) && eqb (step_refusal n (numbers known) size) 0) (leb (height size * width size) 64) four

  pub settled-is-lawful : step_refusal n (numbers known) size ≡ 0
  settled-is-lawful =
      eqb-true (step_refusal n (numbers known) size) 0
      (and_right (controls_known known && only_d_used (con0 (numbers known))) (eqb (step_refusal n (numbers known) size) 0) three)

  two : (controls_known known && only_d_used (con0 (numbers known))) ≡ true
  two = and_left (controls_known known && only_d_used (con0 (numbers known))) (eqb (step_refusal n (numbers known) size) 0) three

  pub settled-uses-d : OnlyD (setup (numbers known)).uses
  unfolding setup only_d_used
  settled-uses-d =
      let used : Uses = uses (con0 (numbers known)) in
      let all : only_d_used (con0 (numbers known)) ≡ true = and_right (controls_known known) (only_d_used (con0 (numbers known))) two in
      let abc : (not used.a && not used.b && not used.c) ≡ true = and_left (not used.a && not used.b && not used.c) used.d all in
      let ab : (not used.a && not used.b) ≡ true = and_left (not used.a && not used.b) (not used.c) abc in
      record {
        a = not-true used.a (and_left (not used.a) (not used.b) ab);
        b = not-true used.b (and_right (not used.a) (not used.b) ab);
        c = not-true used.c (and_right (not used.a && not used.b) (not used.c) abc);
        d = and_right (not used.a && not used.b && not used.c) used.d all;
      }

  pub settled-agrees : (file : List ℕ) → length known ≡ blitter_length → Agrees known file → Agree (numbers known) file
  unfolding controls_known sources_known
  settled-agrees file long agrees =
      let controls : controls_known known ≡ true = and_left (controls_known known) (only_d_used (con0 (numbers known))) two in
      let c4 = and_left (has known control0 && has known control1 && has known pointer_d && has known (pointer_d + 1)) (has known modulo_d) controls in
      let c3 = and_left (has known control0 && has known control1 && has known pointer_d) (has known (pointer_d + 1)) c4 in
      let c2 = and_left (has known control0 && has known control1) (has known pointer_d) c3 in
      let f : ℕ = function (con0 (numbers known)) in
      let ask-a : Bool = not (counts f 4) || has known source_a && has known first_mask && has known last_mask in
      let ask-b : Bool = not (counts f 2) || has known source_b in
      let ask-c : Bool = not (counts f 1) || has known source_c in
      let ab : (ask-a && ask-b) ≡ true = and_left (ask-a && ask-b) ask-c sources in
      let for-a : counts f 4 ≡ true → (has known source_a && has known first_mask && has known last_mask) ≡ true =
      λ counted. asked (counts f 4) (has known source_a && has known first_mask && has known last_mask) (and_left ask-a ask-b ab) counted in
      record {
        control0 = known-agrees known file control0 long (lit< tt) agrees (and_left (has known control0) (has known control1) c2);
        control1 = known-agrees known file control1 long (lit< tt) agrees (and_right (has known control0) (has known control1) c2);
        high = known-agrees known file pointer_d long (lit< tt) agrees (and_right (has known control0 && has known control1) (has known pointer_d) c3);
        low = known-agrees known file (pointer_d + 1) long (lit< tt) agrees (and_right (has known control0 && has known control1 && has known pointer_d) (has known (pointer_d + 1)) c4);
        modulo = known-agrees known file modulo_d long (lit< tt) agrees (and_right (has known control0 && has known control1 && has known pointer_d && has known (pointer_d + 1)) (has known modulo_d) controls);
        first = λ counted. known-agrees known file first_mask long (lit< tt) agrees (and_right (has known source_a) (has known first_mask) (and_left (has known source_a && has known first_mask) (has known last_mask) (for-a counted)));
        last = λ counted. known-agrees known file last_mask long (lit< tt) agrees (and_right (has known source_a && has known first_mask) (has known last_mask) (for-a counted));
        a = λ counted. known-agrees known file source_a long (lit< tt) agrees (and_left (has known source_a) (has known first_mask) (and_left (has known source_a && has known first_mask) (has known last_mask) (for-a counted)));
        b = λ counted. known-agrees known file source_b long (lit< tt) agrees (asked (counts f 2) (has known source_b) (and_right ask-a ask-b ab) counted);
        c = λ counted. known-agrees known file source_c long (lit< tt) agrees (asked (counts f 1) (has known source_c) (and_right (ask-a && ask-b) ask-c sources) counted);
      }

  -- it uses D alone and isn't refused, and a line that does is
  settled-is-area : line (con1 (numbers known)) ≡ false
  settled-is-area = area-of-only-d n (numbers known) size settled-uses-d settled-is-lawful

  pub settled-goes_round : (file : List ℕ) → length known ≡ blitter_length → Agrees known file → goes_round file size ≡ false
  settled-goes_round file long agrees =
      sym (goes_round-alike (numbers known) file (settled-agrees file long agrees) size settled-uses-d settled-is-area)
      ∙ settled-never-goes-round n known size holds

pub a-line-is-never-settled : ALineIsNeverSettled
unfolding Agrees
a-line-is-never-settled n known file size long agrees lined = by-test (settled n known size) refl
  where
    by-test : (holds : Bool) → settled n known size ≡ holds → holds ≡ false
    by-test true holds =
        sym lined ∙ ap line (sym (settled-agrees n known size holds file long agrees).control1) ∙ settled-is-area n known size holds
    by-test false kept = refl

-- done it doesn't go round, refused it gives no yes
pub a-settled-blit-never-goes-round : ASettledBlitNeverGoesRound
unfolding Agrees blit_step area_done line_done refused
a-settled-blit-never-goes-round n known memory file size long agrees holds =
    let stays = settled-goes_round n known size holds file long agrees in
    answered-either (λ (end : Outcome). end.round ≡ false) (step_refusal (length memory) file size) memory file size stays stays refl
