-- The claims of specs/Histories.antt, each under its own name.
-- Assumes: nothing.
use Prim.Native.Nat.{ℕ, zero, suc, ◌+◌, ◌^◌, ◌≤◌, ◌<◌, ◌-◌}
use Rattle.answers.specs.declared.refusals.Refusal.TheVariants as refusal
use Rattle.answers.specs.declared.refusals.Refusal.{Refusal}
use native.Mathlib.Omega.{arith}
use native.Mathlib.Nat.{zero-add}
use mathlib.Core.Path.{◌≡◌, refl, sym, ap, ◌∙◌}
use mathlib.Core.Bool.{Bool, true, false, not, ◌&&◌, ◌||◌}
use mathlib.Core.List.{List, [], ◌∷◌}
use mathlib.Core.Logic.{inr}
use borrow.Author.Tests.{eqb-true, eq-eqb, ne_eqb, le-leb, lt-ltb, le-ltb}
use lib.Dec.{eqb, leb, ltb}
use lib.ListN.{length, get_or}
use Rattle.std.specs.Prelude.{if◌then◌else◌, Err, Ok, Result, Some, ⊤}
use Rattle.number_laws.proofs.Tests.{not_both}
use Rattle.placed.specs.From.{values_from, tab}
use Rattle.placed.proofs.FromLaws.{values_same}
use Rattle.ids.specs.Ids.{refusal3}
use Rattle.ids.specs.Packing.{packed, unpacked}
use Rattle.ids.specs.declared.Request.{Request}
use Rattle.registers.proofs.WordsLaws.{narrow_all}
use Rattle.registers.specs.Sizes.{refusal1, size_of, oas_size}
use Rattle.registers.specs.declared.Registers.{Registers}
use Rattle.memory_image.specs.Extent.{address_top, refusal2, fetched}
use Rattle.memory_image.specs.declared.Extent.{Extent}
use Rattle.memory_image.specs.Rule.{Ran, run, and_then}
use Rattle.memory_image.specs.Words.{word}
use Rattle.answers.specs.Pieces.{pieces_of}
use Rattle.answers.specs.Outcome.{f_ste_fetch, fetch_event, recorded}
use Rattle.answers.specs.declared.Outcome.{Outcome}
use Rattle.answers.specs.declared.Outcome.TheVariants.{Abort, Bypass, Fault, Quiet}
use Rattle.answer_words.specs.AnswerWords.{laid_out, words_of, aborted, outcome_of, list_of}
use Rattle.stream_table.specs.StreamTable.{stream_rule, is_linear, split_of, l1std_at, stes_held, leaf_rule, two_level_rule}
use Rattle.stream_entry.specs.StreamEntry.{ste_rule, not_there, stage1_rule, bad_stage1, with_id}
use Rattle.context_table.specs.ContextTable.{context_rule, leaf_bits, two_level_rule as cd_two_level_rule, l1cd_rule}
use Rattle.context_entry.specs.ContextEntry.{cd_rule, effective_ips}
use Rattle.lookup.specs.Lookup.{lookup_rule, from_ste, from_entry, from_cd, answered, looked_up}
use Rattle.lookup.specs.declared.Looked.{Looked}
use Rattle.book_words.specs.Layout.{slots_most, book_words, keys_from, base_of, length_of, extent_held, copied, kept_at, other_extent, slots_of, key_at, key_of, registers_of, block_at, opened_with}
use Rattle.book_words.specs.Malformed.{first_from, refusal7}
use Rattle.book.specs.Book.{open_says, ask_book, refused_with, shares, shared_from, touched, struck_from, Opened, Asks, Noticed}
use Rattle.book.specs.declared.Asked.{Asked}
use Rattle.book.specs.declared.Reply.{Reply}
use Rattle.book.specs.declared.Reply.TheVariants as reply
use Rattle.report_cells.specs.Text.{decimal_text, slot_text, digits}
use Rattle.report_cells.specs.Cells.{line_text, cells_from, columns_of, ending_of, cell_text, header_text, kept_text, stream_text, substream_text, outcome_text, abort_text, event_text, address_text}
use Rattle.report.specs.Report.{report_text, lines_from, line_at, line_for}
use Rattle.report.proofs.Claims.{text_is_there, later_bytes_stay}
use Rattle.book_history.specs.History.{State, Begun, Narrow, edit, notice, ask, start, within, differs, today, holding, editing, handing, noticing, asking, opening}
use Rattle.book_history.specs.Claims.{Clean}
use Rattle.book_history.specs.Demand3.{answer_in, looked_in, KeptIn, Empty, NewIn}
use Rattle.book_history.proofs.HistoryLaws.{later, begun_sound}
use Rattle.book_history.proofs.AskedLaws.{accepts, kept_from_its_slot, new_in_lowest}
use Rattle.book_history.proofs.Demand1.{holds_what_it_held}
use Rattle.book_history.proofs.Demand2.{outside_never_counts}
use Rattle.book_history.proofs.Demand3.{never_stale, strikes_exactly, touched_to, hit}
use Rattle.book_history.proofs.Claims.{never_malformed, header_stays, still_good, one_opening, one_ask}
use Rattle.book_history.proofs.Uses.{never_refused_seven}
use Rattle.shots.specs.Shots.{Shot, plain, stage1, figure, piece, translates, byte_of, whole}
use Rattle.shots.specs.Claims.{Right}
use Rattle.shots.specs.Histories.{memory_of, bench_memory, plainly, key, Keys, OneAskedIn, OneAsked, TwoAsked, BothStruck, SlotUsedAgain, FullAndKept, substreamed, third, fourth, Staged, ThreeAndFour, Caught, StaleCaught, past_the_end, wants, AddressCaught, beside, EdgesLeaveIt, AboveNeverCounts, sample, SampleReport}
use Rattle.shots.proofs.Claims.{tab_length, tab_at, real_shots, real_faults, real}

-- words that a book has after some history
record Booked (ws : List ℕ) : Type 0 where
  bench : State
  begun : Begun bench
  same : bench.words ≡ ws
  whole_is : bench.extent ≡ whole

module _ {ws : List ℕ} (book : Booked ws) where
  well : refusal7 ws ≡ false
  well = rw book.same at (never_malformed book.bench book.begun)

  long : length ws ≡ book_words
  long = rw book.same at (begun_sound book.bench book.begun).size

  -- it takes a memory of 65,536 bytes at 0
  extent_is : extent_held ws ≡ whole
  extent_is =
      let is : extent_held book.bench.words ≡ book.bench.extent = (header_stays book.bench book.begun).1 in
      (rw book.same at is) ∙ book.whole_is

  here : (memory : List ℕ) → length memory ≡ 0x10000 → other_extent ws 0 (length memory) ≡ false
  here memory size =
      let base : base_of ws ≡ 0 = ap (λ (e : Extent). e.base) extent_is in
      let length_is : length_of ws ≡ 0x10000 = ap (λ (e : Extent). e.length) extent_is in
      rw (size, base, length_is)

record AskedBy (told : Result Reply Refusal) (s : State) (base : ℕ) (memory after : List ℕ) : Type 0 where
  words : (asking told s base memory after).words ≡ after
  registers : (asking told s base memory after).registers ≡ s.registers
  extent : (asking told s base memory after).extent ≡ s.extent

asked_by : (told : Result Reply Refusal) (s : State) (base : ℕ) (memory after : List ℕ) → AskedBy told s base memory after
asked_by (Err n) s base memory after = record { words = refl; registers = refl; extent = refl }
asked_by (Ok (reply.KeptBefore outcome)) s base memory after = record { words = refl; registers = refl; extent = refl }
asked_by (Ok (reply.NewlyKept outcome)) s base memory after = record { words = refl; registers = refl; extent = refl }
asked_by (Ok (reply.NotKept outcome)) s base memory after = record { words = refl; registers = refl; extent = refl }

noticed_by :
    (told : Result ⊤ Refusal) (s : State) (begin size : ℕ) (after : List ℕ)
    → ((noticing told s begin size after).words ≡ after) × ((noticing told s begin size after).extent ≡ s.extent)
noticed_by (Err n) s begin size after = (refl, refl)
noticed_by (Ok done) s begin size after = (refl, refl)

-- an opening of a bench with these bytes, an ask, a notice
module _ (r : Registers) (narrow : Narrow r) (slots : ℕ) (before opened : List ℕ) (bytes : ℕ → ℕ) (opens : Opened r whole slots before (Ok tt) opened) where
  bench_before : State
  bench_before = record { words = before; memory = bytes; unnoticed = λ a. false; registers = r; extent = whole }

  opened_begun : Begun (opening (Ok tt) bench_before r whole opened)
  unfolding bench_before
  opened_begun =
      record {
        before = bench_before;
        registers = r;
        extent = whole;
        slots = slots;
        after = opened;
        narrow = narrow;
        accepted = opens;
        since = start;
      }

  opened_booked : Booked opened
  opened_booked = record { bench = opening (Ok tt) bench_before r whole opened; begun = opened_begun; same = refl; whole_is = refl }

  opened_is : open_says r whole slots ≡ Ok tt → opened ≡ opened_with r whole slots
  opened_is taken =
      (one_opening r whole slots before (Ok tt) (Ok tt) opened (opened_with r whole slots) opens (record { result = sym taken; book = rw taken })).1

module _ {ws : List ℕ} (book : Booked ws) where
  asked_booked :
      (base : ℕ) (memory : List ℕ) (request : Request) (told : Asked) (after : List ℕ) → request.stream.number < 2 ^ 32
      → Asks ws base memory request told after → Booked after
  asked_booked base memory request told after narrow promise =
      let there : Asks book.bench.words base memory request told after = rw book.same promise in
      record {
        bench = asking told.reply book.bench base memory after;
        begun = later book.begun (ask base memory request told after narrow there);
        same = (asked_by told.reply book.bench base memory after).words;
        whole_is = (asked_by told.reply book.bench base memory after).extent ∙ book.whole_is;
      }

  noticed_booked : (begin size : ℕ) (told : Result ⊤ Refusal) (after : List ℕ) → Noticed ws begin size told after → Booked after
  noticed_booked begin size told after promise =
      let there : Noticed book.bench.words begin size told after = rw book.same promise in
      record {
        bench = noticing told book.bench begin size after;
        begun = later book.begun (notice begin size told after there);
        same = (noticed_by told book.bench begin size after).0;
        whole_is = (noticed_by told book.bench begin size after).1 ∙ book.whole_is;
      }

  -- a notice below 2^52 is taken, and strikes what it touches
  taken : (begin size : ℕ) (told : Result ⊤ Refusal) (after : List ℕ) → begin + size ≤ address_top → Noticed ws begin size told after → told ≡ Ok tt
  taken begin size told after low promise =
      let there : Noticed book.bench.words begin size told after = rw book.same promise in
      (never_refused_seven book.bench book.begun).noticed begin size told after there ∙ rw (le-ltb _ _ low)

  key_left :
      (begin size : ℕ) (told : Result ⊤ Refusal) (after : List ℕ) → begin + size ≤ address_top → Noticed ws begin size told after
      → (i : ℕ) → i < slots_most → key_at after i ≡ (if touched ws begin size i then 0 else key_at ws i)
  key_left begin size told after low promise i small = go (touched ws begin size i) refl
    where
      there : Noticed ws begin size (Ok tt) after
      there = rw (taken begin size told after low promise) at promise

      go : (t : Bool) → touched ws begin size i ≡ t → key_at after i ≡ (if t then 0 else key_at ws i)
      go true e = (strikes_exactly ws begin size after there).empty_if i small (inr (touched_to begin size ws i e).1)
      go false e =
          (strikes_exactly ws begin size after there).rest (keys_from + i)
          (λ j few is held read.
          let same : j ≡ i = omega arith in
          not_both (sym (rw same at (hit ws begin size (well book) j few held read)) ∙ e))

-- an ask in a memory of 65,536 bytes, where the request isn't kept and a slot is empty: what the rules say goes there
record Ready (r : Registers) (slots : ℕ) (ws : List ℕ) (request : Request) (i : ℕ) : Type 0 where
  registers : registers_of ws ≡ r
  here : other_extent ws 0 0x10000 ≡ false
  slots_are : slots_of ws ≡ slots
  unheld : first_from ws (key_of request) slots 0 ≡ slots
  empty : first_from ws 0 slots 0 ≡ i
  third_not : refusal3 request ≡ false

abbrev holds : List ℕ → ℕ → Request → Ran Outcome → List ℕ
holds ws i request shot = kept_at ws i (key_of request) (words_of shot.answer (pieces_of shot.list))

asked_is :
    (r : Registers) (slots : ℕ) {ws : List ℕ} → Booked ws → (bs : List (ℕ × ℕ)) (request : Request) (i : ℕ) (shot : Ran Outcome)
    → Ready r slots ws request i → i < slots → looked_up r 0 (memory_of bs) request ≡ answered shot
    → (told : Asked) (after : List ℕ) → Asks ws 0 (memory_of bs) request told after → after ≡ holds ws i request shot
unfolding ask_book
asked_is r slots {ws = ws} book bs request i shot ready room is told after promise =
    let none : ltb slots slots ≡ false = le-ltb slots slots (omega arith) in
    (one_ask ws 0 (memory_of bs) request told _ after (holds ws i request shot) promise
    (record {
      result = refl;
      book =
          rw (tab_length 0x10000 (byte_of bs), ready.registers, is)
          (simp (well book, ready.here, ready.third_not, ready.slots_are, ready.unheld, none, ready.empty, lt-ltb i slots room));
    })
    ).1

-- what the rules say of the streams that are asked
shot_188 : Ran Outcome
shot_188 = record { answer = Bypass 0x2f00; list = piece 0x8000 8 ∷ (piece 0x2f00 64 ∷ []) }

shot_256 : Ran Outcome
shot_256 = record { answer = Bypass 0x2f00; list = piece 0x8008 8 ∷ (piece 0x2f00 64 ∷ []) }

shot_260 : Ran Outcome
shot_260 = record { answer = Abort 0x02; list = piece 0x8008 8 ∷ [] }

shot_768 : Ran Outcome
shot_768 = record { answer = Bypass 0x4000; list = piece 0x8018 8 ∷ (piece 0x4000 64 ∷ []) }

shot_three : Ran Outcome
shot_three = record { answer = translates 0xffc0; list = piece 0x8018 8 ∷ (piece 0x4000 64 ∷ (piece 0xffc0 64 ∷ [])) }

shot_four : Ran Outcome
shot_four = record { answer = translates 0xa180; list = piece 0x8018 8 ∷ (piece 0x4000 64 ∷ (piece 0xc008 8 ∷ (piece 0xa180 64 ∷ []))) }

shot_two : Ran Outcome
shot_two = record { answer = Abort 0x04; list = piece 0x8008 8 ∷ (piece 0x2f00 64 ∷ []) }

shot_now : Ran Outcome
shot_now = record { answer = Quiet; list = piece 0x8008 8 ∷ (piece 0x2f00 64 ∷ []) }

looked_188 : looked_up plain 0 bench_memory (plainly 188) ≡ answered shot_188
unfolding shot_188
looked_188 = real_shots.1.1.1.1.1.1.1.1.1.0

looked_256 : looked_up plain 0 bench_memory (plainly 256) ≡ answered shot_256
unfolding shot_256
looked_256 = real_shots.1.1.0

looked_260 : looked_up plain 0 bench_memory (plainly 260) ≡ answered shot_260
unfolding shot_260
looked_260 = real_shots.1.1.1.1.0

looked_768 : looked_up plain 0 bench_memory (plainly 768) ≡ answered shot_768
unfolding shot_768
looked_768 = real_shots.1.1.1.1.1.1.0

looked_three : looked_up stage1 0 (memory_of third) (substreamed 255) ≡ answered shot_three
unfolding shot_three
looked_three = real_shots.1.1.1.1.1.1.1.1.1.1.0

looked_four : looked_up stage1 0 (memory_of fourth) (substreamed 70) ≡ answered shot_four
unfolding shot_four
looked_four = real_shots.1.1.1.1.1.1.1.1.1.1.1.1.0

-- two that the table doesn't have: 256 where its STE is all zeros, and where it starts with 0x01
more_two : Shot
more_two = record { registers = stage1; memory = fourth; request = plainly 256; answer = Abort 0x04; list = piece 0x8008 8 ∷ (piece 0x2f00 64 ∷ []) }

more_now : Shot
more_now = record { registers = plain; memory = (0x2f00, 0x01) ∷ figure; request = plainly 256; answer = Quiet; list = piece 0x8008 8 ∷ (piece 0x2f00 64 ∷ []) }

more_right : Right more_two × Right more_now
unfolding run fetched word lookup_rule and_then from_ste from_entry from_cd stream_rule is_linear split_of l1std_at stes_held leaf_rule two_level_rule ste_rule not_there stage1_rule bad_stage1 with_id context_rule leaf_bits cd_two_level_rule l1cd_rule cd_rule effective_ips size_of oas_size refusal1 refusal3 more_two more_now
more_right = (
  record { says = refl; registers_taken = refl; request_taken = refl },
  record { says = refl; registers_taken = refl; request_taken = refl },
)

looked_two : looked_up stage1 0 (memory_of fourth) (plainly 256) ≡ answered shot_two
unfolding shot_two more_two
looked_two = real more_two more_right.0

looked_now : looked_up plain 0 (memory_of ((0x2f00, 0x01) ∷ figure)) (plainly 256) ≡ answered shot_now
unfolding shot_now more_now
looked_now = real more_now more_right.1

-- the words: of a book of two slots just opened; with 188; with 256 too; after a notice of 188's L1STD; with 256 alone, and 260 after it; of one of
-- four slots, with P11, with P13 too, with 256 too
fresh : List ℕ
fresh = opened_with plain whole 2

held1 : List ℕ
held1 = holds fresh 0 (plainly 188) shot_188

held2 : List ℕ
held2 = holds held1 1 (plainly 256) shot_256

gap : List ℕ
gap = struck_from held2 0x8000 1 slots_most 0

alone : List ℕ
alone = holds fresh 0 (plainly 256) shot_256

sampled : List ℕ
sampled = holds alone 1 (plainly 260) shot_260

staged0 : List ℕ
staged0 = opened_with stage1 whole 4

staged1 : List ℕ
staged1 = holds staged0 0 (substreamed 255) shot_three

staged2 : List ℕ
staged2 = holds staged1 1 (substreamed 70) shot_four

staged3 : List ℕ
staged3 = holds staged2 2 (plainly 256) shot_two

-- what they hold, computed
record Computed : Type 0 where
  for_188 : Ready plain 2 fresh (plainly 188) 0
  for_256 : Ready plain 2 held1 (plainly 256) 1
  for_256_alone : Ready plain 2 fresh (plainly 256) 0
  for_260 : Ready plain 2 alone (plainly 260) 1
  for_three : Ready stage1 4 staged0 (substreamed 255) 0
  for_four : Ready stage1 4 staged1 (substreamed 70) 1
  for_two : Ready stage1 4 staged2 (plainly 256) 2
  plain_taken : open_says plain whole 2 ≡ Ok tt
  stage1_taken : open_says stage1 whole 4 ≡ Ok tt

computed : Computed
unfolding registers_of opened_with first_from block_at values_from copied packed laid_out words_of pieces_of open_says refusal1 refusal2 refusal3 size_of oas_size shot_188 shot_256 shot_three shot_four fresh held1 alone staged0 staged1 staged2
computed =
    record {
      for_188 = record { registers = refl; here = refl; slots_are = refl; unheld = refl; empty = refl; third_not = refl };
      for_256 = record { registers = refl; here = refl; slots_are = refl; unheld = refl; empty = refl; third_not = refl };
      for_256_alone = record { registers = refl; here = refl; slots_are = refl; unheld = refl; empty = refl; third_not = refl };
      for_260 = record { registers = refl; here = refl; slots_are = refl; unheld = refl; empty = refl; third_not = refl };
      for_three = record { registers = refl; here = refl; slots_are = refl; unheld = refl; empty = refl; third_not = refl };
      for_four = record { registers = refl; here = refl; slots_are = refl; unheld = refl; empty = refl; third_not = refl };
      for_two = record { registers = refl; here = refl; slots_are = refl; unheld = refl; empty = refl; third_not = refl };
      plain_taken = refl;
      stage1_taken = refl;
    }

plain_narrow : Narrow plain
plain_narrow = record { each = λ j few. narrow_all plain refl j }

stage1_narrow : Narrow stage1
stage1_narrow = record { each = λ j few. narrow_all stage1 refl j }

-- a book that was opened, and asked for one stream, then for another: its words
module _ (bs : List (ℕ × ℕ)) (n : ℕ) (small : n < 2 ^ 32) (ws : List ℕ) (one : OneAskedIn bs n ws) where
  booked_one : Booked ws
  booked_one =
      asked_booked (opened_booked plain plain_narrow 2 _ _ (byte_of bs) one.opens) 0 (memory_of bs) (plainly n) _ _ small one.asks

  words_one :
      (shot : Ran Outcome) → Ready plain 2 fresh (plainly n) 0 → looked_up plain 0 (memory_of bs) (plainly n) ≡ answered shot
      → ws ≡ holds fresh 0 (plainly n) shot
  unfolding fresh
  words_one shot ready is =
      let opened = opened_is plain plain_narrow 2 _ _ (byte_of bs) one.opens computed.plain_taken in
      let book : Booked fresh = rw opened at (opened_booked plain plain_narrow 2 _ _ (byte_of bs) one.opens) in
      let asks : Asks fresh 0 (memory_of bs) (plainly n) one.told ws = rw opened at one.asks in
      asked_is plain 2 book bs (plainly n) 0 shot ready (omega arith) is one.told ws asks

booked_188 : (ws : List ℕ) → OneAsked 188 ws → Booked ws
booked_188 = booked_one figure 188 (omega arith)

booked_256 : (bs : List (ℕ × ℕ)) (ws : List ℕ) → OneAskedIn bs 256 ws → Booked ws
booked_256 bs = booked_one bs 256 (omega arith)

-- 188 and 256
module _ (ws : List ℕ) (two : TwoAsked 188 256 ws) where
  book : Booked ws
  book = asked_booked (booked_188 two.first two.one) 0 bench_memory (plainly 256) _ _ (omega arith) two.asks

  two_words : ws ≡ held2
  unfolding held1 held2
  two_words =
      let first : two.first ≡ held1 = words_one figure 188 (omega arith) two.first two.one shot_188 computed.for_188 looked_188 in
      let booked : Booked held1 = rw first at (booked_188 two.first two.one) in
      let asks : Asks held1 0 bench_memory (plainly 256) two.told ws = rw first at two.asks in
      asked_is plain 2 booked figure (plainly 256) 1 shot_256 computed.for_256 (omega arith) looked_256 two.told ws asks

  two_booked : Booked held2
  two_booked = rw two_words at book

  -- the keys that a notice leaves
  left :
      (begin : ℕ) → begin + 1 ≤ address_top → (told : Result ⊤ Refusal) (after : List ℕ) → Noticed ws begin 1 told after
      → (key_at after 0 ≡ (if touched held2 begin 1 0 then 0 else key_at held2 0)) × (key_at after 1 ≡ (if touched held2 begin 1 1 then 0 else key_at held2 1))
  left begin low told after promise =
      let there : Noticed held2 begin 1 told after = rw two_words at promise in
      (key_left two_booked begin 1 told after low there 0 (omega arith), key_left two_booked begin 1 told after low there 1 (omega arith))

  pub both_struck : BothStruck ws
  unfolding opened_with block_at values_from copied packed laid_out words_of list_of pieces_of shares shared_from touched shot_188 shot_256 fresh held1 held2
  both_struck =
      record {
        held = rw two_words (refl, (refl, tt));
        both = λ told after promise. let l = left 0x2f00 (omega arith) told after promise in (l.0, (l.1, tt));
        before = λ told after promise. let l = left 0x2eff (omega arith) told after promise in (l.0, (l.1, tt));
        after = λ told after promise. let l = left 0x2f40 (omega arith) told after promise in (l.0, (l.1, tt));
        one = λ told after promise. let l = left 0x8008 (omega arith) told after promise in (l.0, (l.1, tt));
      }

  -- a notice of 188's L1STD, and then 768
  pub slot_used_again : SlotUsedAgain ws
  unfolding opened_with block_at values_from copied packed laid_out words_of list_of pieces_of shares shared_from touched refusal3 shot_188 shot_256 fresh held1 held2
  slot_used_again told struck noticed answer after promise =
      let there : Noticed held2 0x8000 1 told struck = rw two_words at noticed in
      let keys = left 0x8000 (omega arith) told struck noticed in
      let empty : key_at struck 0 ≡ 0 = keys.0 in
      let kept : key_at struck 1 ≡ key 256 = keys.1 in
      let booked : Booked struck = noticed_booked two_booked 0x8000 1 told struck there in
      let done = rw (taken two_booked 0x8000 1 told struck (omega arith) there) at there in
      let slots : slots_of struck ≡ 2 = (strikes_exactly held2 0x8000 1 struck done).rest 0 (λ i small is held read. omega arith) in
      let accepted = accepts struck 0 bench_memory (plainly 768) answer after (well booked) (here booked bench_memory (tab_length 0x10000 (byte_of figure))) refl promise in
      let none : (i : ℕ) → KeptIn struck (plainly 768) i → ⊥ = none_there struck empty kept slots in
      let new = (new_in_lowest struck 0 bench_memory (plainly 768) answer after (long booked) promise accepted none).room 0 (omega arith, empty) in
      filled struck answer after new (omega arith, empty) kept
    where
      none_there : (at : List ℕ) → key_at at 0 ≡ 0 → key_at at 1 ≡ key 256 → slots_of at ≡ 2 → (i : ℕ) → KeptIn at (plainly 768) i → ⊥
      none_there at empty kept slots zero is = let k = is.key in omega arith
      none_there at empty kept slots (suc zero) is = let k = is.key in omega arith
      none_there at empty kept slots (suc (suc i)) is = let b = is.below in omega arith

      filled :
          (at : List ℕ) (answer : Asked) (after : List ℕ) → (new : NewIn at (plainly 768) answer after) → Empty at 0 → key_at at 1 ≡ key 256
          → Keys after (key 768 ∷ key 256 ∷ [])
      filled at answer after new empty kept = go new.slot refl
        where
          go : (i : ℕ) → new.slot ≡ i → Keys after (key 768 ∷ key 256 ∷ [])
          go zero is =
              let k = new.key in
              let rest = new.rest (keys_from + 1) (λ e. omega arith) (λ j few e. omega arith) in
              (rw is at k, (rest ∙ kept, tt))
          go (suc i) is = absurd (new.lowest 0 (omega arith) empty)

  pub full_and_kept : FullAndKept ws
  unfolding opened_with block_at values_from copied packed laid_out words_of outcome_of list_of pieces_of registers_of refusal3 shot_188 shot_256 shot_768 fresh held1 held2
  full_and_kept =
      rw two_words
      (record {
        full = λ told after promise. full told after promise;
        kept = λ told after promise.
            let accepted = accepts held2 0 bench_memory (plainly 256) told after (well two_booked) (here two_booked bench_memory (tab_length 0x10000 (byte_of figure))) refl promise in
            let from = kept_from_its_slot held2 0 bench_memory (plainly 256) told after promise accepted 1 (record { below = omega arith; key = refl }) in
            (ap (λ (a : Asked). a.reply) from.0, from.1);
        other = λ memory told after promise. other memory told after promise;
      })
    where
      unheld : (i : ℕ) → KeptIn held2 (plainly 768) i → ⊥
      unheld zero is = let k = is.key in omega arith
      unheld (suc zero) is = let k = is.key in omega arith
      unheld (suc (suc i)) is = let b = is.below in omega arith

      no_empty : (i : ℕ) → Empty held2 i → ⊥
      no_empty zero is = let k = is.1 in omega arith
      no_empty (suc zero) is = let k = is.1 in omega arith
      no_empty (suc (suc i)) is = let b = is.0 in omega arith

      full : (told : Asked) (after : List ℕ) → Asks held2 0 bench_memory (plainly 768) told after → (told.reply ≡ Ok (reply.NotKept (Bypass 0x4000))) × (after ≡ held2)
      full told after promise =
          let accepted = accepts held2 0 bench_memory (plainly 768) told after (well two_booked) (here two_booked bench_memory (tab_length 0x10000 (byte_of figure))) refl promise in
          let new = new_in_lowest held2 0 bench_memory (plainly 768) told after (long two_booked) promise accepted unheld in
          let none = new.full no_empty in
          let answer : Ok none.outcome ≡ Ok (Bypass 0x4000) = sym (ap answer_in none.told) ∙ ap (λ (l : Looked). l.answer) (new.by_lookup ∙ looked_768) in
          let same : none.outcome ≡ Bypass 0x4000 = cc in
          (none.told ∙ ap (λ (o : Outcome). Ok (reply.NotKept o)) same, none.same)

      other : (memory : List ℕ) (told : Asked) (after : List ℕ) → Asks held2 64 memory (plainly 768) told after → (told ≡ refused_with refusal.OtherMemory) × (after ≡ held2)
      other memory told after promise =
          let there : Asks two_booked.bench.words 64 memory (plainly 768) told after = rw two_booked.same promise in
          let refused : told ≡ refused_with refusal.OtherMemory
          = (never_refused_seven two_booked.bench two_booked.begun).asked_for 64 memory (plainly 768) told after there (rw two_booked.same) in
          (refused, (holds_what_it_held refusal.OtherMemory).asked_for held2 64 memory (plainly 768) told after promise (ap (λ (a : Asked). a.reply) refused))

-- a book of four slots, with lists of three, of four and of two
module _ (ws : List ℕ) (staged : Staged ws) where
  staged_opened : staged.opened ≡ staged0
  unfolding staged0
  staged_opened = opened_is stage1 stage1_narrow 4 _ _ (byte_of third) staged.opens computed.stage1_taken

  book_0 : Booked staged0
  book_0 = rw staged_opened at (opened_booked stage1 stage1_narrow 4 _ _ (byte_of third) staged.opens)

  asks_three : Asks staged0 0 (memory_of third) (substreamed 255) staged.told_three staged.first
  asks_three = rw staged_opened at staged.asks_three

  first_is : staged.first ≡ staged1
  unfolding staged1
  first_is = asked_is stage1 4 book_0 third (substreamed 255) 0 shot_three computed.for_three (omega arith) looked_three _ _ asks_three

  book_1 : Booked staged1
  book_1 = rw first_is at (asked_booked book_0 0 (memory_of third) (substreamed 255) _ _ (omega arith) asks_three)

  asks_four : Asks staged1 0 (memory_of fourth) (substreamed 70) staged.told_four staged.second
  asks_four = rw first_is at staged.asks_four

  second_is : staged.second ≡ staged2
  unfolding staged2
  second_is = asked_is stage1 4 book_1 fourth (substreamed 70) 1 shot_four computed.for_four (omega arith) looked_four _ _ asks_four

  book_2 : Booked staged2
  book_2 = rw second_is at (asked_booked book_1 0 (memory_of fourth) (substreamed 70) _ _ (omega arith) asks_four)

  asks_two : Asks staged2 0 (memory_of fourth) (plainly 256) staged.told_two ws
  asks_two = rw second_is at staged.asks_two

  staged_is : ws ≡ staged3
  unfolding staged3
  staged_is = asked_is stage1 4 book_2 fourth (plainly 256) 2 shot_two computed.for_two (omega arith) looked_two _ _ asks_two

  book_3 : Booked staged3
  book_3 = rw staged_is at (asked_booked book_2 0 (memory_of fourth) (plainly 256) _ _ (omega arith) asks_two)

  -- the key that a notice leaves in a slot
  stays :
      (begin : ℕ) → begin + 1 ≤ address_top → (told : Result ⊤ Refusal) (after : List ℕ) → Noticed ws begin 1 told after
      → (i : ℕ) → i < slots_most → key_at after i ≡ (if touched staged3 begin 1 i then 0 else key_at staged3 i)
  stays begin low told after promise i small =
      let there : Noticed staged3 begin 1 told after = rw staged_is at promise in key_left book_3 begin 1 told after low there i small

  pub three_and_four : ThreeAndFour ws
  unfolding opened_with block_at values_from copied packed laid_out words_of list_of pieces_of shares shared_from touched shot_three shot_four shot_two staged0 staged1 staged2 staged3
  three_and_four =
      record {
        held = rw staged_is (refl, (refl, (refl, (refl, tt))));
        third_of_three = λ told after promise. let k = stays 0xffff (omega arith) told after promise in (k 0 (omega arith), (k 1 (omega arith), (k 2 (omega arith), (k 3 (omega arith), tt))));
        third_of_four = λ told after promise. let k = stays 0xc00f (omega arith) told after promise in (k 0 (omega arith), (k 1 (omega arith), (k 2 (omega arith), (k 3 (omega arith), tt))));
        fourth_of_four = λ told after promise. let k = stays 0xa1bf (omega arith) told after promise in (k 0 (omega arith), (k 1 (omega arith), (k 2 (omega arith), (k 3 (omega arith), tt))));
        second_of_two = λ told after promise. let k = stays 0x2f3f (omega arith) told after promise in (k 0 (omega arith), (k 1 (omega arith), (k 2 (omega arith), (k 3 (omega arith), tt))));
        shared = λ told after promise. let k = stays 0x4000 (omega arith) told after promise in (k 0 (omega arith), (k 1 (omega arith), (k 2 (omega arith), (k 3 (omega arith), tt))));
        past = λ told after promise. let k = stays 0xa1c0 (omega arith) told after promise in (k 0 (omega arith), (k 1 (omega arith), (k 2 (omega arith), (k 3 (omega arith), tt))));
      }

-- a bench on which nothing lacks its notice
record Calm (bs : List (ℕ × ℕ)) (s : State) : Type 0 where
  bytes : (a : ℕ) → s.memory a ≡ byte_of bs a
  clean : (a : ℕ) → s.unnoticed a ≡ false

-- the memory that such a bench has differs from itself nowhere
nothing_differs : (bs : List (ℕ × ℕ)) (s : State) → ((a : ℕ) → s.memory a ≡ byte_of bs a) → (a : ℕ) → differs s 0 (memory_of bs) a ≡ false
nothing_differs bs s is a =
    let same : a - 0 ≡ a = omega arith in
    rw (same, tab_length 0x10000 (byte_of bs), tab_at 0x10000 (byte_of bs) a, is a) (go (ltb a 0x10000) refl)
  where
    go :
        (t : Bool) → ltb a 0x10000 ≡ t
        → (leb 0 a && ltb a (0 + 0x10000)) && not (eqb (if ltb a 0x10000 then byte_of bs a else 0) (byte_of bs a)) ≡ false
    go true e = rw (e, eq-eqb (byte_of bs a) (byte_of bs a) refl) (none (leb 0 a && true))
      where
        none : (t : Bool) → t && false ≡ false
        none true = refl
        none false = refl
    go false e = rw (zero-add, e) (none (leb 0 a))
      where
        none : (t : Bool) → (t && false) && not (eqb 0 (byte_of bs a)) ≡ false
        none true = refl
        none false = refl

calm_asked : (bs : List (ℕ × ℕ)) (s : State) → Calm bs s → (told : Result Reply Refusal) (after : List ℕ) → Calm bs (asking told s 0 (memory_of bs) after)
calm_asked bs s calm told after = go told
  where
    handed : Calm bs (holding (handing s 0 (memory_of bs)) after)
    handed =
        record {
          bytes = λ a. rw (nothing_differs bs s calm.bytes a) (calm.bytes a);
          clean = λ a. rw (nothing_differs bs s calm.bytes a) (calm.clean a);
        }

    go : (told : Result Reply Refusal) → Calm bs (asking told s 0 (memory_of bs) after)
    go (Err n) = record { bytes = calm.bytes; clean = calm.clean }
    go (Ok (reply.KeptBefore outcome)) = handed
    go (Ok (reply.NewlyKept outcome)) = handed
    go (Ok (reply.NotKept outcome)) = handed

-- what slot 0 holds after an ask for 256
record Holds (shot : Ran Outcome) (words : List ℕ) : Type 0 where
  key_is : key_at words 0 ≡ key 256
  below : 0 < slots_of words
  request_is : unpacked (key_at words 0 - 1) ≡ Some (plainly 256)
  list_is : list_of (block_at words 0) ≡ pieces_of shot.list
  told_is : record { answer = Ok (outcome_of (block_at words 0)); list = list_of (block_at words 0) } ≡ answered shot

holds_alone : Holds shot_256 alone
unfolding opened_with block_at values_from copied packed unpacked laid_out words_of outcome_of list_of pieces_of shot_256 fresh alone
holds_alone = record { key_is = refl; below = omega arith; request_is = refl; list_is = refl; told_is = refl }

holds_away : Holds (wants 0x12f00) (holds fresh 0 (plainly 256) (wants 0x12f00))
unfolding opened_with block_at values_from copied packed unpacked laid_out words_of outcome_of aborted fetch_event list_of pieces_of fresh
holds_away = record { key_is = refl; below = omega arith; request_is = refl; list_is = refl; told_is = refl }

-- 256 was asked, and then its tables are written to
module _ (bs : List (ℕ × ℕ)) (ws : List ℕ) (one : OneAskedIn bs 256 ws) where
  asked_bench : State
  asked_bench = asking one.told.reply (opening (Ok tt) (bench_before plain plain_narrow 2 one.before one.opened (byte_of bs) one.opens) plain whole one.opened) 0 (memory_of bs) ws

  asked_begun : Begun asked_bench
  unfolding asked_bench bench_before
  asked_begun = later (opened_begun plain plain_narrow 2 _ _ (byte_of bs) one.opens) (ask 0 (memory_of bs) (plainly 256) one.told ws (omega arith) one.asks)

  asked_calm : Calm bs asked_bench
  unfolding asked_bench bench_before
  asked_calm = calm_asked bs _ (record { bytes = λ a. refl; clean = λ a. refl }) one.told.reply ws

  asked_there : (asked_bench.words ≡ ws) × (asked_bench.registers ≡ plain) × (asked_bench.extent ≡ whole)
  unfolding asked_bench bench_before
  asked_there =
      let by = asked_by one.told.reply (opening (Ok tt) (bench_before plain plain_narrow 2 one.before one.opened (byte_of bs) one.opens) plain whole one.opened) 0 (memory_of bs) ws in
      (by.words, by.registers, by.extent)

  -- a byte of the tables is edited, and the edit is noticed: nothing lacks its notice
  module _ (at byte : ℕ) where
    edited_bench : State
    edited_bench = editing asked_bench (λ a. eqb at a) (λ a. byte)

    noticed_bench : List ℕ → State
    noticed_bench struck = noticing (Ok tt) edited_bench at 1 struck

    all_noticed : (struck : List ℕ) (a : ℕ) → (handing (noticed_bench struck) 0 (memory_of ((at, byte) ∷ bs))).unnoticed a ≡ false
    unfolding edited_bench noticed_bench
    all_noticed struck a =
        rw (nothing_differs ((at, byte) ∷ bs) (noticed_bench struck) (λ b. rw (asked_calm.bytes b)) a) (go (eqb at a) refl)
      where
        go : (t : Bool) → eqb at a ≡ t → (if within at 1 a then false else eqb at a || asked_bench.unnoticed a) ≡ false
        go true e =
            let is : at ≡ a = eqb-true _ _ e in
            simp (le-leb at a (omega arith), lt-ltb a (at + 1) (omega arith))
        go false e = rw (e, asked_calm.clean a) (same (within at 1 a))
          where
            same : (t : Bool) → (if t then false else false) ≡ false
            same true = refl
            same false = refl

    caught : at < address_top → {now : Looked} → looked_up plain 0 (memory_of ((at, byte) ∷ bs)) (plainly 256) ≡ now → Caught bs ws at byte now
    unfolding refusal3 edited_bench noticed_bench
    caught low looked_now told struck noticed answer after promise =
        let there = asked_there in
        let booked = booked_256 bs ws one in
        let done : Noticed ws at 1 (Ok tt) struck = rw (taken booked at 1 told struck (omega arith) noticed) at noticed in
        let done' : Noticed asked_bench.words at 1 (Ok tt) struck = rw there.0 done in
        let begun : Begun (noticed_bench struck) = later (later asked_begun (edit (λ a. eqb at a) (λ a. byte))) (notice at 1 (Ok tt) struck done') in
        let now : Booked struck = record { bench = noticed_bench struck; begun = begun; same = refl; whole_is = there.2 } in
        let memory = memory_of ((at, byte) ∷ bs) in
        let accepted = accepts struck 0 memory (plainly 256) answer after (well now) (here now memory (tab_length 0x10000 (byte_of ((at, byte) ∷ bs)))) refl promise in
        never_stale (noticed_bench struck) begun 0 memory (plainly 256) (omega arith) (all_noticed struck) answer after promise accepted
        ∙ rw there.1 looked_now

-- in the figure's memory
module _ (ws : List ℕ) (one : OneAsked 256 ws) where
  pub stale_caught : StaleCaught ws
  unfolding shot_now
  stale_caught = caught figure ws one 0x2f00 0x01 (omega arith) looked_now

  -- an edit beside its pieces, without a notice
  besides_bench : (ℕ → ℕ) → State
  besides_bench other = editing (asked_bench figure ws one) beside other

  alone_is : ws ≡ alone
  unfolding alone
  alone_is = words_one figure 256 (omega arith) ws one shot_256 computed.for_256_alone looked_256

  today_is : (other : ℕ → ℕ) → today (besides_bench other) ≡ tab 0x10000 (λ a. if beside a then other a else byte_of figure a)
  unfolding besides_bench
  today_is other =
      rw (asked_there figure ws one).2 (values_same _ _ 0x10000 0 (λ j low high. rw (zero-add, (asked_calm figure ws one).bytes j)))

  away : (a : ℕ) → (a ≡ 0x8007 → ⊥) → (a ≡ 0x8010 → ⊥) → (a ≡ 0x2eff → ⊥) → (a ≡ 0x2f40 → ⊥) → (beside a || (asked_bench figure ws one).unnoticed a) ≡ false
  away a n1 n2 n3 n4 = simp (ne_eqb _ _ n1, ne_eqb _ _ n2, ne_eqb _ _ n3, ne_eqb _ _ n4, (asked_calm figure ws one).clean a)

  clear : (other : ℕ → ℕ) → Clean (besides_bench other).unnoticed (pieces_of shot_256.list)
  unfolding pieces_of shot_256 besides_bench
  clear other zero small a from to = away a (λ e. omega arith) (λ e. omega arith) (λ e. omega arith) (λ e. omega arith)
  clear other (suc zero) small a from to = away a (λ e. omega arith) (λ e. omega arith) (λ e. omega arith) (λ e. omega arith)
  clear other (suc (suc i)) small a from to = absurd (omega arith)

  pub edges_leave_it : EdgesLeaveIt ws
  unfolding refusal3 besides_bench shot_256
  edges_leave_it other told after promise =
      let h : Holds shot_256 ws = rw alone_is holds_alone in
      let there = asked_there figure ws one in
      let memory = tab 0x10000 (λ a. if beside a then other a else byte_of figure a) in
      let booked = booked_256 figure ws one in
      let k = h.key_is in
      let accepted = accepts ws 0 memory (plainly 256) told after (well booked) (here booked memory (tab_length 0x10000 (λ a. if beside a then other a else byte_of figure a))) refl promise in
      let from = kept_from_its_slot ws 0 memory (plainly 256) told after promise accepted 0 (record { below = h.below; key = h.key_is }) in
      let begun : Begun (besides_bench other) = later (asked_begun figure ws one) (edit beside other) in
      let clean : Clean (besides_bench other).unnoticed (list_of (block_at (asked_bench figure ws one).words 0)) = rw (there.0, h.list_is) (clear other) in
      let good =
      still_good (besides_bench other) begun 0 (omega arith) (λ none. let z = sym (ap (λ (words : List ℕ). key_at words 0) there.0) ∙ none in omega arith) clean (plainly 256)
      (rw there.0 h.request_is) in
      let good' : looked_up plain 0 memory (plainly 256) ≡ record { answer = Ok (outcome_of (block_at ws 0)); list = list_of (block_at ws 0) }
      = rw (today_is other, there.0, there.1, there.2) at good in
      (ap looked_in from.0 ∙ h.told_is, good' ∙ h.told_is)

-- where the L1STD points past the memory, and then to another place there
module _ (ws : List ℕ) (one : OneAskedIn past_the_end 256 ws) where
  away_is : ws ≡ holds fresh 0 (plainly 256) (wants 0x12f00)
  away_is = words_one past_the_end 256 (omega arith) ws one (wants 0x12f00) computed.for_256_alone real_faults.1.1.1.1.0

  pub address_caught : AddressCaught ws
  unfolding refusal3
  address_caught =
      record {
        kept = λ told after promise.
            let h : Holds (wants 0x12f00) ws = rw away_is holds_away in
            let memory = memory_of ((0x800a, 0x02) ∷ past_the_end) in
            let booked = booked_256 past_the_end ws one in
            let accepted = accepts ws 0 memory (plainly 256) told after (well booked) (here booked memory (tab_length 0x10000 (byte_of ((0x800a, 0x02) ∷ past_the_end)))) refl promise in
            let from = kept_from_its_slot ws 0 memory (plainly 256) told after promise accepted 0 (record { below = h.below; key = h.key_is }) in
            let held : Ok (outcome_of (block_at ws 0)) ≡ Ok (Fault f_ste_fetch 0x12f00) = ap (λ (l : Looked). l.answer) h.told_is in
            let same : outcome_of (block_at ws 0) ≡ Fault f_ste_fetch 0x12f00 = cc in
            ap (λ (a : Asked). a.reply) from.0 ∙ ap (λ (o : Outcome). Ok (reply.KeptBefore o)) same;
        noticed = caught past_the_end ws one 0x800a 0x02 (omega arith) real_faults.1.1.1.1.1.0;
      }

-- whatever lies above the memory that is lent
pub above_never_counts : AboveNeverCounts
unfolding shot_256
above_never_counts f same =
    outside_never_counts plain 0 0x10000 (plainly 256) f (byte_of figure) (λ a low high. same a (omega arith))
    ∙ ap (λ (memory : List ℕ). looked_up plain 0 memory (plainly 256)) (values_same _ _ 0x10000 0 (λ j low high. rw zero-add)) ∙ looked_256

-- the report of 256 and 260
sample_text : report_text sampled ≡ sample
unfolding registers_of opened_with first_from block_at values_from copied packed unpacked laid_out words_of outcome_of aborted fetch_event list_of pieces_of shot_256 shot_260 fresh alone sampled report_text lines_from line_at line_for line_text cells_from columns_of ending_of cell_text header_text kept_text slot_text stream_text substream_text outcome_text abort_text event_text address_text decimal_text digits recorded
sample_text = refl

module _ (ws : List ℕ) (two : TwoAsked 256 260 ws) where
  sampled_is : ws ≡ sampled
  unfolding alone sampled
  sampled_is =
      let first : two.first ≡ alone = alone_is two.first two.one in
      let booked : Booked alone = rw first at (booked_256 figure two.first two.one) in
      let asks : Asks alone 0 bench_memory (plainly 260) two.told ws = rw first at two.asks in
      asked_is plain 2 booked figure (plainly 260) 1 shot_260 computed.for_260 (omega arith) looked_260 two.told ws asks

  text_is : report_text ws ≡ sample
  text_is = rw sampled_is sample_text

  pub sample_report : SampleReport ws
  sample_report =
      record {
        text = text_is;
        written = λ before after n promise.
            let there = text_is_there ws before after n promise in
            let size : n ≡ length sample = there.0 ∙ ap length text_is in (
              size,
              λ x small. there.1 x (omega arith) ∙ ap (λ (t : List ℕ). get_or t x 0) text_is,
              λ x past. later_bytes_stay ws before after n x promise (omega arith),
            );
      }
