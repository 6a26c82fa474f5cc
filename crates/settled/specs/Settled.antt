-- Paper 01, "Folding": "A blit is settled when all hold", and paper 02, W12: "a blit that would give this yes is no longer
-- settled (one whose pointer goes round only after its last access stays settled)".
use Rattle.std.specs.Prelude.{ℕ, ◌+◌, ◌*◌, Bool, not, ◌&&◌, ◌||◌, List, Option, is_some, eqb, leb}
use Rattle.word.specs.Size.{height, width}
use Rattle.file.specs.Places.{control0, control1, first_mask, last_mask, pointer_d, modulo_d, source_a, source_b, source_c}
use Rattle.file.specs.File.{con0}
use Rattle.word.specs.Control.{uses, function}
use Rattle.refusal.specs.Refusal.{step_refusal}
use Rattle.round.specs.Round.{goes_round}
use Rattle.depends.specs.Depends.{counts}
use Rattle.knowledge.specs.Knowledge.{known_at, numbers}

abbrev pub has : (known : List (Option ℕ)) → (place : ℕ) → Bool
has known place = is_some (known_at known place)

-- "BLTCON0, BLTCON1, both D pointer halves and the D modulo are known"
unfoldable pub controls_known : (known : List (Option ℕ)) → Bool
controls_known known =
    has known control0
    && has known control1
    && has known pointer_d
    && has known (pointer_d + 1)
    && has known modulo_d

-- "only D is used"
unfoldable pub only_d_used : (con0 : ℕ) → Bool
only_d_used con0 = not (uses con0).a && not (uses con0).b && not (uses con0).c && (uses con0).d

-- "each source that the logic function depends on has its data register known, with both masks for A"
unfoldable pub sources_known : (function : ℕ) → (known : List (Option ℕ)) → Bool
sources_known function known =
    (not (counts function 4) || has known source_a && has known first_mask && has known last_mask)
    && (not (counts function 2) || has known source_b)
    && (not (counts function 1) || has known source_c)

-- every condition but W12's, one line each, in the paper's order; numbers is the file of the known numbers
unfoldable pub otherwise_settled : (n : ℕ) → (known : List (Option ℕ)) → (size : ℕ) → Bool
otherwise_settled n known size =
    controls_known known
    && only_d_used (con0 (numbers known))
    && eqb (step_refusal n (numbers known) size) 0
    && leb (height size * width size) 64
    && sources_known (function (con0 (numbers known))) known

-- and W12's: "a blit that would give this yes is no longer settled"
unfoldable pub settled : (n : ℕ) → (known : List (Option ℕ)) → (size : ℕ) → Bool
settled n known size = otherwise_settled n known size && not (goes_round (numbers known) size)

-- "kept .. for that alone"
unfoldable pub kept_for_round : (n : ℕ) → (known : List (Option ℕ)) → (size : ℕ) → Bool
kept_for_round n known size = otherwise_settled n known size && goes_round (numbers known) size
