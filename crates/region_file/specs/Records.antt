-- The records of a region file: 32 bytes each, eight little-endian words. Bytes past the end count as 0.
use Rattle.std.specs.Prelude.{Bool, true, ◌&&◌, List, ℕ, zero, suc, ◌+◌, ◌*◌, ◌/◌, ◌^◌, eqb, length, get_or}
use Rattle.signed.specs.Words.{cast_signed}
use Rattle.stage.specs.declared.regions.Field.{Field}
use Rattle.region_file.specs.declared.records.Record.{Record}

-- the bytes of a word
abbrev pub word_bytes : ℕ
word_bytes = 4

-- the bytes of a record, which has eight words
abbrev pub record_bytes : ℕ
record_bytes = 32

-- the word of the four bytes that begin at a byte, the lowest first
unfoldable pub word_at : List ℕ → ℕ → ℕ
word_at file at = get_or file at 0 + get_or file (at + 1) 0 * 2 ^ 8 + get_or file (at + 2) 0 * 2 ^ 16 + get_or file (at + 3) 0 * 2 ^ 24

-- word k of record n
abbrev pub record_word : List ℕ → ℕ → ℕ → ℕ
record_word file n k = word_at file (n * record_bytes + k * word_bytes)

-- record n of a chain: next, left, top, width, height, the two words of the digital shift (01: scramble), count.
-- Left and top are in two's complement.
unfoldable pub record_at : List ℕ → ℕ → Record
record_at file n = record {
  next = record_word file n 0;
  region = record {
    left = cast_signed (record_word file n 1);
    top = cast_signed (record_word file n 2);
    width = record_word file n 3;
    height = record_word file n 4;
  };
  shift = record { x = record_word file n 5; y = record_word file n 6 };
  count = record_word file n 7;
}

-- the number of the chain's first record, the first word of record 0
abbrev pub first_record : List ℕ → ℕ
first_record file = record_word file 0 0

-- the level, the second word of record 0
abbrev pub file_level : List ℕ → ℕ
file_level file = record_word file 0 1

-- the reader's field (C-12): its width and height, the third and the fourth word of record 0
unfoldable pub reader_field : List ℕ → Field
reader_field file = record { width = record_word file 0 2; height = record_word file 0 3 }

-- n bytes are zero, the first of which is byte `at`
unfoldable pub zeros : List ℕ → ℕ → ℕ → Bool
zeros file at zero = true
zeros file at (suc n) = eqb (get_or file at 0) 0 && zeros file (at + 1) n

-- the first of the reserved bytes of record 0, which stand behind the four words that it uses
abbrev pub reserved_start : ℕ
reserved_start = 16

-- their number: bytes 16 to 31
abbrev pub reserved_bytes : ℕ
reserved_bytes = 16

-- they are all zero
abbrev pub reserved_zero : List ℕ → Bool
reserved_zero file = zeros file reserved_start reserved_bytes

-- the number of whole records that the bytes hold, record 0 included
abbrev pub record_count : List ℕ → ℕ
record_count file = length file / record_bytes

-- the bytes of the longest file
abbrev pub most_bytes : ℕ
most_bytes = 65536

-- the records of the longest file, record 0 included
abbrev pub most_records : ℕ
most_records = 2048
