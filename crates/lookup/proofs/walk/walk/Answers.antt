-- Proof of `lookup::walk::walk`: a law for each stage at which it can end.
-- Assumes: nothing.
use Rattle.std.proofs.lemmas.Result.{err_from_is_err_and}
use Rattle.lookup.proofs.WalkLaws.{stream_ended, ste_fault, ste_ended, index_ended, cd_fault, cd_read}
use Rattle.lookup.proofs.walk.walk.Goals as goal

pub returns-in_err-ste_at : goal.returns-in_err-ste_at
returns-in_err-ste_at c =
    let told = err_from_is_err_and c.from_residual.result c.from_residual.ensures.1 in
    rw (told.1, told.2) (stream_ended _ _ _ _ _ c.in_err-ste_at.ensures)

pub returns-in_default : goal.returns-in_default
returns-in_default c = ste_fault _ _ _ _ _ c.in_ok-ste_at.ensures c.read-fetched.ensures c.in_default.is c.wanted.ensures

pub returns-in_err-index : goal.returns-in_err-index
returns-in_err-index c =
    let told = err_from_is_err_and c.from_residual-in_err-index.result c.from_residual-in_err-index.ensures.1 in
    rw (told.1, told.2)
    (ste_ended _ _ _ _ _ c.in_ok-ste_at.ensures c.read-fetched.ensures c.in-At.is c.descriptor.ensures c.in_err-index.ensures)

pub returns-in_err-cd_at : goal.returns-in_err-cd_at
returns-in_err-cd_at c =
    let told = err_from_is_err_and c.from_residual-in_err-cd_at.result c.from_residual-in_err-cd_at.ensures.1 in
    rw (told.1, told.2)
    (index_ended _ _ _ _ _ c.in_ok-ste_at.ensures c.read-fetched.ensures c.in-At.is c.descriptor.ensures c.in_ok-index.ensures c.in_err-cd_at.ensures)

pub returns-in_default-fetched : goal.returns-in_default-fetched
returns-in_default-fetched c =
    cd_fault _ _ _ _ _ c.in_ok-ste_at.ensures c.read-fetched.ensures c.in-At.is c.descriptor.ensures c.in_ok-index.ensures c.in_ok-cd_at.ensures
    c.read-fetched-2.ensures c.in_default-fetched.is c.wanted-in_default-fetched.ensures

pub returns : goal.returns
returns c =
    cd_read _ _ _ _ _ c.in_ok-ste_at.ensures c.read-fetched.ensures c.in-At.is c.descriptor.ensures c.in_ok-index.ensures c.in_ok-cd_at.ensures
    c.read-fetched-2.ensures c.in-At-fetched.is c.descriptor-2.ensures c.read_cd.ensures
