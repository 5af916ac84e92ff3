-- Bytes put after the text in a buffer.
--     put_follows    the bytes that there is room for follow the text
-- Assumes: nothing.
use Prim.Native.Nat.{ℕ, ◌+◌, ◌-◌, min}
use native.Mathlib.Omega.{arith}
use mathlib.Core.Path.{◌≡◌, refl, sym, ap, ◌∙◌}
use mathlib.Core.Bool.{Bool, true, false}
use mathlib.Core.List.{List, ◌++◌}
use borrow.Author.Tests.{leb-true, leb-false}
use borrow.Rule.Slice.PartMut.{put_mid}
use lib.Dec.{leb}
use lib.ListN.{length, take, drop}
use Rattle.std.proofs.Math.Seq.{take-append-add}
use Rattle.std.proofs.lemmas.List.{length-take, length-take-le, take-append-drop, take_all, take_at}
use Rattle.std.proofs.lemmas.Slice.{take-put_mid}

-- the bytes of a part that is taken are as many as it has
take_taken : (n : ℕ) (l : List ℕ) → take (length (take n l)) l ≡ take n l
take_taken n l =
    rw (take-append-drop n l) at (take_at (take n l) (drop n l) (length (take n l)) refl)

-- as many bytes as there are and there is room for
take_room : (m n : ℕ) (l : List ℕ) → n ≡ min (length l) m → take n l ≡ take m l
take_room m n l is = go (leb (length l) m) refl
  where
    go : (t : Bool) → leb (length l) m ≡ t → take n l ≡ take m l
    go true e =
        let fits = leb-true _ _ e in
        take_all n l (omega arith) ∙ sym (take_all m l fits)
    go false e =
        let more = leb-false _ _ e in
        let same : n ≡ m = omega arith in
        rw same

module _
    (buffer bytes : List ℕ) (filled start n k : ℕ) (ys : List ℕ)
    (at : start ≡ length (take filled buffer)) (fits : n ≡ min (length bytes) (length buffer - filled))
    (put : ys ≡ take n bytes) where
  pub put_follows : take (start + n) (put_mid start k buffer ys) ≡ take (length buffer) (take filled buffer ++ bytes)
  put_follows =
      let where_is : start ≡ min filled (length buffer) = at ∙ length-take filled buffer in
      let size : length ys ≡ n = ap length put ∙ length-take-le n bytes (omega arith) in
      let left = take-put_mid start k buffer ys (start + n) (omega arith) (omega arith) in
      let all : length buffer ≡ length (take filled buffer) + (length buffer - start) = omega arith in
      let right = take-append-add (take filled buffer) bytes (length buffer - start) in
      let room : n ≡ min (length bytes) (length buffer - start) = omega arith in
      left
      ∙ rw (at, take_taken filled buffer, put, take_room _ _ bytes room)
      (sym right ∙ ap (λ m. take m (take filled buffer ++ bytes)) (sym all))
