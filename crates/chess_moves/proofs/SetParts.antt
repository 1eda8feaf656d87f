-- The members of a set, from what is known of the sets that it is made of.
use Rattle.std.proofs.Common.{◌≡◌, ℕ, ◌^◌, ◌<◌, not, ◌&&◌, ◌||◌, Bool, w64}
use Rattle.std.specs.Int.{bit_not}
use Rattle.std.specs.Int.RustNames.{bit_and, bit_or}
use Rattle.square_sets.specs.Members.{has}
use Rattle.chess_moves.proofs.SetBits.{has_and, has_or, has_less}

pub part : (a b t : ℕ) (p q : Bool) → has a t ≡ p → has b t ≡ q → has (bit_and a b) t ≡ (p && q)
part a b t p q ea eb = rw (has_and a b t, ea, eb)

pub joined : (a b t : ℕ) (p q : Bool) → has a t ≡ p → has b t ≡ q → has (bit_or a b) t ≡ (p || q)
joined a b t p q ea eb = rw (has_or a b t, ea, eb)

pub parted : (a b t : ℕ) (p q : Bool) → b < 2 ^ 64 → t < 64 → has a t ≡ p → has b t ≡ q → has (bit_and a (bit_not w64 b)) t ≡ (p && not q)
parted a b t p q fits l ea eb = rw (has_less a b t fits l, ea, eb)
