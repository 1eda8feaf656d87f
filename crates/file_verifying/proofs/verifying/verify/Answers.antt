use Rattle.std.proofs.Common.{[], inl, refl}
use Rattle.std.proofs.KnownBytes.{Appends-nil}
use Rattle.std.proofs.lemmas.Result.{err_from_is_err_and}
use Rattle.file_verifying.proofs.verifying.verify.Goals as goal

pub returns-in_err-new_memo-clause-err : goal.returns-in_err-new_memo-clause-err
returns-in_err-new_memo-clause-err g c =
    let (other, is, same) = err_from_is_err_and c.from_residual.result c.from_residual.ensures.1 in
    rw (is, same, c.in_err-new_memo.ensures.err) (record {
      gained = [];
      shows = inl refl;
      appends = Appends-nil (g.O.Write.contents c.args.out.now);
    })
