use Rattle.chess_moves.specs.declared.directions.Direction.TheVariants.{North, NorthEast, East, SouthEast, South, SouthWest, West, NorthWest}
use Rattle.chess_moves.specs.inside.Directions.{stands_between}
use Rattle.chess_moves.proofs.AttackSets.{eight, along}
use Rattle.chess_moves.proofs.ray_tables.Rays.between.Goals as goal

pub returns : goal.returns
unfolding stands_between
returns c = λ t l. eight _ _ _ _ _ _ _ _ t _ _ _ _ _ _ _ _
    (along North c.args.a c.args.b t c.ray.result c.ray-2.result (c.ray.ensures t l) (c.ray-2.ensures t l))
    (along NorthEast c.args.a c.args.b t c.ray-3.result c.ray-4.result (c.ray-3.ensures t l) (c.ray-4.ensures t l))
    (along East c.args.a c.args.b t c.ray-5.result c.ray-6.result (c.ray-5.ensures t l) (c.ray-6.ensures t l))
    (along SouthEast c.args.a c.args.b t c.ray-7.result c.ray-8.result (c.ray-7.ensures t l) (c.ray-8.ensures t l))
    (along South c.args.a c.args.b t c.ray-9.result c.ray-10.result (c.ray-9.ensures t l) (c.ray-10.ensures t l))
    (along SouthWest c.args.a c.args.b t c.ray-11.result c.ray-12.result (c.ray-11.ensures t l) (c.ray-12.ensures t l))
    (along West c.args.a c.args.b t c.ray-13.result c.ray-14.result (c.ray-13.ensures t l) (c.ray-14.ensures t l))
    (along NorthWest c.args.a c.args.b t c.ray-15.result c.ray-16.result (c.ray-15.ensures t l) (c.ray-16.ensures t l))
