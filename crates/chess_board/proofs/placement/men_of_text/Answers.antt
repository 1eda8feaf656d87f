use Rattle.std.proofs.Common.{◌≡◌, ◌-◌, ℕ, Option, arith, subst, None, refl}
use Rattle.std.proofs.lemmas.List.{length-replicate}
use Rattle.chess_board.specs.declared.men.Man.{Man}
use Rattle.chess_board.proofs.PlacementReading.{IsReadDownTo, few_ranks, bad_rank, bad_last_rank, one_more_rank, all_ranks}
use Rattle.chess_board.proofs.RankBoards.{next_empty, still_empty, as_long}
use Rattle.chess_board.proofs.placement.men_of_text.Goals as goal

pub loop-rank-init : goal.loop-rank-init
loop-rank-init c = rw c.empty-men.ensures
    (record { so_far = refl; long = length-replicate {A = Option Man} 64 None; least = omega arith; free = refl })

pub returns-in_err-front-clause-none : goal.returns-in_err-front-clause-none
returns-in_err-front-clause-none c =
    let l = c.loop-rank in
    rw c.from_residual.ensures
    (few_ranks l.rank c.args.text.now l.men l.rest.now l.invariant.so_far (omega arith) c.in_err-front.ensures.none)

pub read_rank-requires-clause-empty : goal.read_rank-requires-clause-empty
read_rank-requires-clause-empty c =
    let l = c.loop-rank in next_empty l.rank (l.rank - 1) l.men (omega arith) l.invariant.free

pub returns-then-not-read_rank-clause-none : goal.returns-then-not-read_rank-clause-none
returns-then-not-read_rank-clause-none c =
    let l = c.loop-rank in
    bad_rank l.rank c.args.text.now l.men l.rest.now c.in_ok-front.front.now _ l.invariant.so_far (omega arith) (omega arith)
    c.in_ok-front.ensures.cut (c.read_rank.ensures.none c.if-not-read_rank.true)

pub loop-rank-preserved : goal.loop-rank-preserved
loop-rank-preserved c =
    let l = c.loop-rank in
    let read = c.read_rank.ensures.read c.if-not-read_rank.false in
    record {
      so_far =
          one_more_rank l.rank (l.rank - 1) c.args.text.now l.men l.rest.now c.in_ok-front.front.now c.in_ok-front.back.now
          read.places c.read_rank.new.men (omega arith) (omega arith) l.invariant.long l.invariant.so_far
          c.in_ok-front.ensures.cut (read.long, read.spelt) read.written;
      long = as_long l.men c.read_rank.new.men read.places (l.rank - 1) (omega arith) l.invariant.long read.long read.written;
      least = omega arith;
      free = still_empty l.rank (l.rank - 1) l.men c.read_rank.new.men read.places (omega arith) l.invariant.free read.written;
    }

pub read_rank-requires-2-clause-empty : goal.read_rank-requires-2-clause-empty
read_rank-requires-2-clause-empty c =
    let l = c.loop-rank in next_empty l.rank 0 l.men (omega arith) l.invariant.free

pub returns-else-read_rank-clause-none : goal.returns-else-read_rank-clause-none
returns-else-read_rank-clause-none c =
    let l = c.loop-rank in
    let last : l.rank ≡ 1 = omega arith in
    let so_far = subst (λ (r : ℕ). IsReadDownTo r c.args.text.now l.men l.rest.now) last l.invariant.so_far in
    bad_last_rank c.args.text.now l.men l.rest.now so_far (c.read_rank-2.ensures.none c.if-read_rank.false)

pub returns-then-read_rank-clause-read : goal.returns-then-read_rank-clause-read
returns-then-read_rank-clause-read c =
    let l = c.loop-rank in
    let last : l.rank ≡ 1 = omega arith in
    let so_far = subst (λ (r : ℕ). IsReadDownTo r c.args.text.now l.men l.rest.now) last l.invariant.so_far in
    let read = c.read_rank-2.ensures.read c.if-read_rank.true in (
      as_long l.men c.read_rank-2.new.men read.places 0 (omega arith) l.invariant.long read.long read.written,
      all_ranks c.args.text.now l.men l.rest.now read.places c.read_rank-2.new.men so_far (read.long, read.spelt) read.written,
    )
