-- Proof of `book::into::ask_into`: the refusals in their order; from the slot; by a new lookup.
-- Assumes: nothing.
use borrow.Author.Rules.{rules}
use Rattle.book.proofs.AskLaws.{ask_malformed, ask_other, ask_third, ask_held, ask_new, key_fits}
use Rattle.book_words.proofs.MalformedLaws.{few_slots, slot_below}
use Rattle.book.proofs.into.ask_into.Goals as goal

pub returns-then-is_malformed : goal.returns-then-is_malformed
returns-then-is_malformed c = search ask_malformed

pub returns-then-is_other : goal.returns-then-is_other
returns-then-is_other c = search ask_other

pub returns-then-refused : goal.returns-then-refused
returns-then-refused c = search ask_third

pub overflow_add-key : goal.overflow_add-key
overflow_add-key c = search key_fits

pub first_from-slot-requires : goal.first_from-slot-requires
first_from-slot-requires c = search few_slots

pub block-kept-requires : goal.block-kept-requires
block-kept-requires c = search (rules, slot_below)

pub returns-then-slot-slots : goal.returns-then-slot-slots
returns-then-slot-slots c = search ask_held

pub look_anew-requires : goal.look_anew-requires
look_anew-requires c = search few_slots

pub returns : goal.returns
returns c = search ask_new
