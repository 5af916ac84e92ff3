-- Proof of `ids::Request::from_numbers`: by its parts.
-- Assumes: nothing.
use Rattle.ids.proofs.NumbersLaws.{request_is}
use borrow.Author.Rules.{rules}
use Rattle.ids.proofs.Request.from_numbers.Goals as goal

pub returns : goal.returns
returns c = search (rules, request_is)
