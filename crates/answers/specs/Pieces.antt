-- The list of what was fetched: as a count and an array with room for the most that a lookup reads, and in an answer's words.
--     none                no piece
--     pieces_of           a list, as a count and an array: the pieces, and zeros after them
--     EachPiece           something holds of each piece that is counted
--     only_list           the words of a list and of nothing else
--     push_piece          one piece more in an answer's words
-- Assumes: nothing.
use Rattle.std.specs.Prelude.{ℕ, zero, suc, ◌+◌, ◌*◌, ◌<◌, List, [], ◌∷◌, ◌++◌, ltb, length, get_or, set, replicate, if◌then◌else◌}
use Rattle.memory_image.specs.declared.Piece.{Piece}
use Rattle.answers.specs.Layout.{pieces_most, count_at, pieces_at}
use Rattle.answers.specs.declared.Pieces.{Pieces}

abbrev pub nothing : Piece
nothing = record { address = 0; length = 0 }

unfoldable pub none : Pieces
none = record { count = 0; piece = replicate pieces_most nothing }

-- m pieces: those of the list, and zeros after them
abbrev pub padded : ℕ → List Piece → List Piece
padded zero l = []
padded (suc m) [] = nothing ∷ padded m []
padded (suc m) (p ∷ l) = p ∷ padded m l

unfoldable pub pieces_of : List Piece → Pieces
pieces_of l = record { count = length l; piece = padded pieces_most l }

abbrev pub EachPiece : (Piece → Type 0) → Pieces → Type 0
EachPiece P l = (i : ℕ) → i < l.count → P (get_or l.piece i nothing)

-- so many pieces from a place of the array on, address and length each
abbrev pub piece_words : List Piece → ℕ → ℕ → List ℕ
piece_words pieces zero i = []
piece_words pieces (suc m) i =
    (get_or pieces i nothing).address ∷ ((get_or pieces i nothing).length ∷ piece_words pieces m (i + 1))

-- zeros stand where the kind and the values will
unfoldable pub only_list : Pieces → List ℕ
only_list l = replicate count_at 0 ++ (l.count ∷ piece_words l.piece pieces_most 0)

-- a list that is full takes no more
unfoldable pub push_piece : List ℕ → Piece → List ℕ
push_piece ws p =
    if ltb (get_or ws count_at 0) pieces_most
    then
    set
    (set (set ws (pieces_at + 2 * get_or ws count_at 0) p.address) (pieces_at + 2 * get_or ws count_at 0 + 1) p.length)
    count_at
    (get_or ws count_at 0 + 1)
    else ws
