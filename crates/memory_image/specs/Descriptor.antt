-- A descriptor by its place in the lent memory.
--     descriptor_words    its words
-- Assumes: nothing.
use Rattle.std.specs.Prelude.{ℕ}
use Rattle.memory_image.specs.Words.{word_of}
use Rattle.memory_image.specs.declared.descriptor.Descriptor.{Descriptor}

abbrev pub descriptor_words : Descriptor → ℕ → ℕ
descriptor_words d = word_of d.bytes.now d.place
