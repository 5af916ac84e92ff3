-- Histories of a book on the figure's bench (RULES, "Shots on the bench": P10), and what is claimed of them. A call is any that met its
-- promise, and the words are whatever it left. Each needs all of a claim of lookup or book_history, on concrete tables and a memory of 65,536 bytes.
--     BothStruck       P10: 188 and 256 share the STE at 0x2F00; a notice of one byte there strikes both
--     SlotUsedAgain    NewInLowest: a struck slot is the next to be filled
--     FullAndKept      NewInLowest, KeptFromItsSlot, HoldsWhatItHeld: a full book, its last slot, another base
--     ThreeAndFour     a list of three, one of four and one of two in a book of four slots, and what strikes which
--     StaleCaught      NeverStale: an STE is edited and noticed; the next ask gives what is there now
--     AddressCaught    NeverStale, KeptFromItsSlot: an answer that is stale in its address alone, kept until the notice and caught after it
--     EdgesLeaveIt     StillGood: edits of the bytes right before and right after a list's pieces, without notice, leave its answer good
--     AboveNeverCounts OutsideNeverCounts: whatever bytes lie above the memory that is lent
--     SampleReport     the report of the rules
-- Assumes: nothing.
use Rattle.std.specs.Prelude.{ℕ, ◌+◌, ◌≤◌, ◌<◌, ◌≡◌, Bool, ◌||◌, List, [], ◌∷◌, ◌++◌, eqb, get_or, length, if◌then◌else◌, None, Ok, Result, Some, ⊤}
use Rattle.answers.specs.declared.refusals.Refusal.TheVariants as refusal
use Rattle.answers.specs.declared.refusals.Refusal.{Refusal}
use Rattle.placed.specs.From.{tab}
use Rattle.ids.specs.declared.Request.{Request}
use Rattle.answers.specs.Outcome.{f_ste_fetch}
use Rattle.answers.specs.declared.Outcome.{Outcome}
use Rattle.answers.specs.declared.Outcome.TheVariants.{Bypass, Fault, Quiet}
use Rattle.memory_image.specs.Rule.{Ran}
use Rattle.lookup.specs.Lookup.{answered, looked_up}
use Rattle.lookup.specs.declared.Looked.{Looked}
use Rattle.book_words.specs.Layout.{key_at, key_of}
use Rattle.book.specs.Book.{Opened, Asks, Noticed, refused_with}
use Rattle.book.specs.declared.Asked.{Asked}
use Rattle.book.specs.declared.Reply.TheVariants.{KeptBefore, NotKept}
use Rattle.book_history.specs.Demand2.{lent}
use Rattle.book_history.specs.Demand3.{looked_in}
use Rattle.report_cells.specs.Text.{bytes}
use Rattle.report.specs.Report.{Reported, report_text}
use Rattle.shots.specs.Shots.{plain, stage1, figure, ste_of, cd_of, l1cd_of, of, piece, byte_of, whole}

-- a memory of 65,536 bytes, from the bytes that aren't 0
abbrev pub memory_of : List (ℕ × ℕ) → List ℕ
memory_of bs = tab 0x10000 (byte_of bs)

abbrev pub bench_memory : List ℕ
bench_memory = memory_of figure

abbrev pub plainly : ℕ → Request
plainly n = of n None

abbrev pub key : ℕ → ℕ
key n = key_of (plainly n)

-- the keys of slots from one on
abbrev pub KeysFrom : List ℕ → ℕ → List ℕ → Type 0
KeysFrom ws i [] = Unit {0}
KeysFrom ws i (k ∷ ks) = (key_at ws i ≡ k) × KeysFrom ws (i + 1) ks

abbrev pub Keys : List ℕ → List ℕ → Type 0
Keys ws ks = KeysFrom ws 0 ks

-- whatever a notice of one byte leaves has these keys
abbrev pub Leaves : List ℕ → ℕ → List ℕ → Type 0
Leaves ws start ks = (says : Result ⊤ Refusal) (after : List ℕ) → Noticed ws start 1 says after → Keys after ks

-- a book of two slots, opened on the figure's bench, and asked for one stream in a memory, or in the figure's for one or for two
pub record OneAskedIn (bs : List (ℕ × ℕ)) (n : ℕ) (ws : List ℕ) : Type 0 where
  pub before : List ℕ
  pub opened : List ℕ
  pub opens : Opened plain whole 2 before (Ok tt) opened
  pub told : Asked
  pub asks : Asks opened 0 (memory_of bs) (plainly n) told ws

abbrev pub OneAsked : ℕ → List ℕ → Type 0
OneAsked n ws = OneAskedIn figure n ws

pub record TwoAsked (n m : ℕ) (ws : List ℕ) : Type 0 where
  pub first : List ℕ
  pub one : OneAsked n first
  pub told : Asked
  pub asks : Asks first 0 bench_memory (plainly m) told ws

pub record BothStruck (ws : List ℕ) : Type 0 where
  pub held : Keys ws (key 188 ∷ key 256 ∷ [])
  pub both : Leaves ws 0x2f00 (0 ∷ 0 ∷ [])
  pub before : Leaves ws 0x2eff (key 188 ∷ key 256 ∷ [])
  pub after : Leaves ws 0x2f40 (key 188 ∷ key 256 ∷ [])
  -- the L1STD of 256 alone
  pub one : Leaves ws 0x8008 (key 188 ∷ 0 ∷ [])

-- 188's L1STD alone is noticed: its slot is empty, and the next answer goes there
abbrev pub SlotUsedAgain : List ℕ → Type 0
SlotUsedAgain ws =
    (says : Result ⊤ Refusal) (struck : List ℕ) → Noticed ws 0x8000 1 says struck → (told : Asked) (after : List ℕ)
    → Asks struck 0 bench_memory (plainly 768) told after → Keys after (key 768 ∷ key 256 ∷ [])

-- two slots, both held: a third answer isn't kept; the last slot's is kept before; another base is refused
pub record FullAndKept (ws : List ℕ) : Type 0 where
  pub full :
      (told : Asked) (after : List ℕ) → Asks ws 0 bench_memory (plainly 768) told after
      → (told.reply ≡ Ok (NotKept (Bypass 0x4000))) × (after ≡ ws)
  pub kept :
      (told : Asked) (after : List ℕ) → Asks ws 0 bench_memory (plainly 256) told after
      → (told.reply ≡ Ok (KeptBefore (Bypass 0x2f00))) × (after ≡ ws)
  pub other :
      (memory : List ℕ) (told : Asked) (after : List ℕ) → Asks ws 64 memory (plainly 768) told after
      → (told ≡ refused_with refusal.OtherMemory) × (after ≡ ws)

-- a book of four slots: P11 and P13 of stream 768, each in its memory, and 256 in the second, where its STE is all zeros
abbrev pub substreamed : ℕ → Request
substreamed n = of 768 (Some (record { number = n }))

abbrev pub third : List (ℕ × ℕ)
third = ste_of 0 ++ cd_of 0xffc0

abbrev pub fourth : List (ℕ × ℕ)
fourth = ste_of 1 ++ (l1cd_of 0xc008 ++ cd_of 0xa180)

pub record Staged (ws : List ℕ) : Type 0 where
  pub before : List ℕ
  pub opened : List ℕ
  pub opens : Opened stage1 whole 4 before (Ok tt) opened
  pub told_three : Asked
  pub first : List ℕ
  pub asks_three : Asks opened 0 (memory_of third) (substreamed 255) told_three first
  pub told_four : Asked
  pub second : List ℕ
  pub asks_four : Asks first 0 (memory_of fourth) (substreamed 70) told_four second
  pub told_two : Asked
  pub asks_two : Asks second 0 (memory_of fourth) (plainly 256) told_two ws

abbrev pub three_key : ℕ
three_key = key_of (substreamed 255)

abbrev pub four_key : ℕ
four_key = key_of (substreamed 70)

pub record ThreeAndFour (ws : List ℕ) : Type 0 where
  pub held : Keys ws (three_key ∷ four_key ∷ key 256 ∷ 0 ∷ [])
  -- the last byte of each piece that one alone has: the third of three; the third and the fourth of four; the second of two
  pub third_of_three : Leaves ws 0xffff (0 ∷ four_key ∷ key 256 ∷ 0 ∷ [])
  pub third_of_four : Leaves ws 0xc00f (three_key ∷ 0 ∷ key 256 ∷ 0 ∷ [])
  pub fourth_of_four : Leaves ws 0xa1bf (three_key ∷ 0 ∷ key 256 ∷ 0 ∷ [])
  pub second_of_two : Leaves ws 0x2f3f (three_key ∷ four_key ∷ 0 ∷ 0 ∷ [])
  -- the STE that two share, and a byte past the fourth
  pub shared : Leaves ws 0x4000 (0 ∷ 0 ∷ key 256 ∷ 0 ∷ [])
  pub past : Leaves ws 0xa1c0 (three_key ∷ four_key ∷ key 256 ∷ 0 ∷ [])

-- what the rules say of 256, and of it when its STE starts with 0x01, V 1 and Config 000
abbrev pub says : Outcome → Looked
says outcome = answered (record { answer = outcome; list = piece 0x8008 8 ∷ (piece 0x2f00 64 ∷ []) })

-- an answer is kept, a byte of its tables is edited, and the edit is noticed: what the next ask gives
abbrev pub Caught : List (ℕ × ℕ) → List ℕ → ℕ → ℕ → Looked → Type 0
Caught bs ws at byte now =
    (said : Result ⊤ Refusal) (struck : List ℕ) → Noticed ws at 1 said struck → (told : Asked) (after : List ℕ)
    → Asks struck 0 (memory_of ((at, byte) ∷ bs)) (plainly 256) told after → looked_in told ≡ now

abbrev pub StaleCaught : List ℕ → Type 0
StaleCaught ws = Caught figure ws 0x2f00 0x01 (says Quiet)

-- the L1STD of 256 points past the memory, at 0x12F20; what the rules say of 256 where its STE isn't fetched
abbrev pub past_the_end : List (ℕ × ℕ)
past_the_end = (0x800a, 0x01) ∷ figure

abbrev pub wants : ℕ → Ran Outcome
wants address = record { answer = Fault f_ste_fetch address; list = piece 0x8008 8 ∷ [] }

-- then it is pointed at 0x22F20: the address alone differs
pub record AddressCaught (ws : List ℕ) : Type 0 where
  -- the edit lacks its notice: the kept answer, with the address of before
  pub kept :
      (told : Asked) (after : List ℕ) → Asks ws 0 (memory_of ((0x800a, 0x02) ∷ past_the_end)) (plainly 256) told after
      → told.reply ≡ Ok (KeptBefore (Fault f_ste_fetch 0x12f00))
  pub noticed : Caught past_the_end ws 0x800a 0x02 (answered (wants 0x22f00))

-- whatever is written right before and right after its L1STD and its STE, without a notice
abbrev pub beside : ℕ → Bool
beside a = eqb a 0x8007 || (eqb a 0x8010 || (eqb a 0x2eff || eqb a 0x2f40))

-- the edit is unannounced, and the kept answer is still what a new lookup gives
abbrev pub EdgesLeaveIt : List ℕ → Type 0
EdgesLeaveIt ws =
    (other : ℕ → ℕ) (told : Asked) (after : List ℕ)
    → Asks ws 0 (tab 0x10000 (λ a. if beside a then other a else byte_of figure a)) (plainly 256) told after
    → (looked_in told ≡ says (Bypass 0x2f00))
    × (looked_up plain 0 (tab 0x10000 (λ a. if beside a then other a else byte_of figure a)) (plainly 256) ≡ says (Bypass 0x2f00))

abbrev pub AboveNeverCounts : Type 0
AboveNeverCounts =
    (f : ℕ → ℕ) → ((a : ℕ) → a < 0x10000 → f a ≡ byte_of figure a) → looked_up plain 0 (lent 0 0x10000 f) (plainly 256) ≡ says (Bypass 0x2f00)

-- the sample: the report after asks for 256 and 260, into a buffer with room for it
abbrev pub sample : List ℕ
sample = bytes "slot\tstream\tsubstream\toutcome\tevent\taddress\n0\t00000100\t-\tbypass\t-\t-\n1\t00000104\t-\tabort\t02\t-\n"

pub record SampleReport (ws : List ℕ) : Type 0 where
  pub text : report_text ws ≡ sample
  pub written :
      (before after : List ℕ) (n : ℕ) → Reported ws before (Ok n) after
      → (n ≡ length sample) × ((x : ℕ) → x < length sample → get_or after x 0 ≡ get_or sample x 0)
      × ((x : ℕ) → length sample ≤ x → get_or after x 0 ≡ get_or before x 0)
