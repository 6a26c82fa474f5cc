use Rattle.word.proofs.Base.{◌≡◌, refl, arith, rules, length}
use Rattle.playfield.proofs.PlanesLaws.{numbered-none, numbered-turn}
use Rattle.playfield.proofs.PlanesLaws.{drawable-inside, drawable-delay, drawable-weight, drawable-small}
use Rattle.playfield.proofs.lay_planes.Goals as goal

pub loop-place-init : goal.loop-place-init
loop-place-init c = numbered-none _ _ _ (search rules) c.requires.1

pub one_bit-weight-requires : goal.one_bit-weight-requires
one_bit-weight-requires c = omega (arith, c.requires.0.planes)

pub lay_plane-requires : goal.lay_plane-requires
lay_plane-requires c = let drawable = c.requires.0 in
    let so_far = c.loop-place.invariant in (
      drawable-inside _ _ drawable _ (search rules) _ refl,
      drawable.words,
      drawable-delay _ _ drawable _ (search rules) _ c.delay-by.ensures,
      drawable-weight _ _ drawable _ (search rules) _ c.one_bit-weight.ensures,
      drawable-small _ _ drawable _ (search rules) _ _ so_far,
    )

pub loop-place-preserved : goal.loop-place-preserved
loop-place-preserved c = numbered-turn _ _ _ _ _ _ _ _ refl
    c.delay-by.ensures c.one_bit-weight.ensures
    c.loop-place.invariant c.lay_plane.ensures

pub returns : goal.returns
returns c = let all : c.loop-place.place ≡ length c.args.field.planes.now = omega arith in rw all at c.loop-place.invariant
