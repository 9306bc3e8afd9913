-- The number, the offset and the layer of each fault of a text.
use Rattle.std.specs.Prelude.{ℕ}
use Rattle.reader.specs.declared.faults.Layer.{Layer}
use Rattle.reader.specs.declared.faults.Layer.TheVariants.{Words, Text}
use Rattle.reader.specs.declared.faults.WordFault.{WordFault}
use Rattle.reader.specs.declared.faults.WordFault.TheVariants.{TooLong, NoNumber}
use Rattle.reader.specs.declared.faults.TextFault.{TextFault}
use Rattle.reader.specs.declared.faults.TextFault.TheVariants.{Word, NoHeader, BadCount, OutOfRange, BadBlock, LastBlockDevice, BoundTwice, Unbound, TooManyLiterals, WordAfterEnd}

abbrev pub word_number : WordFault → ℕ
word_number TooLong = 1
word_number (NoNumber at) = 3

abbrev pub word_offset : WordFault → ℕ
word_offset TooLong = 65536
word_offset (NoNumber at) = at

abbrev pub text_number : TextFault → ℕ
text_number (Word w) = word_number w
text_number (NoHeader at) = 2
text_number (BadCount at) = 4
text_number (OutOfRange at) = 5
text_number (BadBlock at) = 6
text_number (LastBlockDevice at) = 7
text_number (BoundTwice at) = 8
text_number (Unbound at) = 9
text_number (TooManyLiterals at) = 10
text_number (WordAfterEnd at) = 11

abbrev pub text_offset : TextFault → ℕ
text_offset (Word w) = word_offset w
text_offset (NoHeader at) = at
text_offset (BadCount at) = at
text_offset (OutOfRange at) = at
text_offset (BadBlock at) = at
text_offset (LastBlockDevice at) = at
text_offset (BoundTwice at) = at
text_offset (Unbound at) = at
text_offset (TooManyLiterals at) = at
text_offset (WordAfterEnd at) = at

-- a fault of a word is the words' layer's, any other the text's
abbrev pub text_layer : TextFault → Layer
text_layer (Word w) = Words
text_layer (NoHeader at) = Text
text_layer (BadCount at) = Text
text_layer (OutOfRange at) = Text
text_layer (BadBlock at) = Text
text_layer (LastBlockDevice at) = Text
text_layer (BoundTwice at) = Text
text_layer (Unbound at) = Text
text_layer (TooManyLiterals at) = Text
text_layer (WordAfterEnd at) = Text
