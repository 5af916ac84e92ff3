-- Proof of `book::into::look_anew`: refused, or an answer.
-- Assumes: nothing.
use Rattle.std.proofs.lemmas.Result.{err_from_is_err_and}
use Rattle.book.proofs.AskLaws.{anew_refused, anew_kept}
use Rattle.book.proofs.into.look_anew.Goals as goal

pub returns-in_err-look_into : goal.returns-in_err-look_into
returns-in_err-look_into c =
    let told = err_from_is_err_and c.from_residual.result c.from_residual.ensures.1 in
    rw (told.1, told.2) (search (anew_refused, c.in_err-look_into.ensures))

pub returns : goal.returns
returns c = search (anew_kept, c.in_ok-look_into.ensures)
