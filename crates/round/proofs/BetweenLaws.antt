-- Laws of the moves between accesses: where more accesses follow, all moves count.
use Rattle.word.proofs.Base.{◌≡◌, refl, sym, ap, ◌∙◌, Bool, ◌||◌, List, [], ◌∷◌, ◌++◌}
use mathlib.Core.Bool.{or_assoc}
use Rattle.word.specs.declared.types.Move.{Move}
use Rattle.round.specs.Between.{between, any_round, went_round}

-- all moves, those after the last access too
unfoldable pub flat : (after : List (List Move)) → List Move
flat [] = []
flat (moves ∷ rest) = moves ++ flat rest

-- there is an access
abbrev pub Some : List (List Move) → Type 0
Some [] = ⊥
Some (moves ∷ rest) = Unit

pub some-of-append : (first rest : List (List Move)) → Some rest → Some (first ++ rest)
some-of-append [] rest some = some
some-of-append (moves ∷ first) rest some = tt

pub any_round-of-append : (first rest : List Move) → any_round (first ++ rest) ≡ (any_round first || any_round rest)
unfolding any_round
any_round-of-append [] rest = refl
any_round-of-append (move ∷ first) rest =
    ap (λ (later : Bool). move.round || later) (any_round-of-append first rest)
    ∙ sym (or_assoc move.round (any_round first) (any_round rest))

between-of-more : (moves : List Move) (rest : List (List Move)) → Some rest → between (moves ∷ rest) ≡ moves ++ between rest
unfolding between
between-of-more moves [] some = absurd some
between-of-more moves (next ∷ rest) some = refl

pub went_round-of-more : (moves : List Move) (rest : List (List Move)) → Some rest → went_round (moves ∷ rest) ≡ (any_round moves || went_round rest)
went_round-of-more moves rest some = ap any_round (between-of-more moves rest some) ∙ any_round-of-append moves (between rest)

pub went_round-of-append : (first rest : List (List Move)) → Some rest → went_round (first ++ rest) ≡ (any_round (flat first) || went_round rest)
unfolding flat any_round
went_round-of-append [] rest some = refl
went_round-of-append (moves ∷ first) rest some =
    went_round-of-more moves (first ++ rest) (some-of-append first rest some)
    ∙ ap (λ (later : Bool). any_round moves || later) (went_round-of-append first rest some)
    ∙ sym (or_assoc (any_round moves) (any_round (flat first)) (went_round rest))
    ∙ ap (λ (all : Bool). all || went_round rest) (sym (any_round-of-append moves (flat first)))
