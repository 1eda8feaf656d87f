use Rattle.chess_moves.proofs.Geometry.{toward_later}
use Rattle.chess_moves.proofs.ray_tables.rays_in_order.Goals as goal

pub returns : goal.returns
returns c = toward_later
