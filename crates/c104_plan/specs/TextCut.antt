-- How a text is cut: into lines, and a line into words; and how long that of a description may be.
use Rattle.std.specs.{List.{before_first, list_all, slice_split}, Prelude.{Bool, List, filter, length, nat_le, not, ℕ, ◌&&◌, ◌==◌, ◌||◌}}

-- the lines of a text: the pieces between line feeds (0x0a), the last one too
abbrev pub lines : List ℕ → List (List ℕ)
lines text = slice_split (λ byte. byte == 0x0a) text

-- what stands before the first `#` (0x23), or all where there is none
abbrev pub uncommented_line : List ℕ → List ℕ
uncommented_line line = before_first (λ byte. byte == 0x23) line

-- whether a byte parts words: space (0x20), tab (0x09), carriage return (0x0d)
abbrev pub parts_words : ℕ → Bool
parts_words byte = byte == 0x20 || (byte == 0x09 || byte == 0x0d)

-- the words of a line: the pieces between bytes that part words, but for the empty ones
abbrev pub line_words : List ℕ → List (List ℕ)
line_words line = filter (λ piece. not (length piece == 0)) (slice_split parts_words line)

-- whether a byte is a printable one of ASCII
abbrev pub is_printable : ℕ → Bool
is_printable byte = nat_le 0x20 byte && nat_le byte 0x7e

-- whether each byte is a printable one of ASCII or parts words
abbrev pub is_plain_line : List ℕ → Bool
is_plain_line line = list_all (λ byte. is_printable byte || parts_words byte) line

-- the most bytes of a description: 1 MiB
abbrev pub most_bytes : ℕ
most_bytes = 1048576
