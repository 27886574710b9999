-- The limits of this program, each number once.
use Rattle.std.specs.Prelude.{ℕ, ◌-◌, ◌^◌}

-- bytes of a file, its byte order mark included
abbrev pub most_file_bytes : ℕ
most_file_bytes = 67108864

-- bytes of a name in a file
abbrev pub most_name_bytes : ℕ
most_name_bytes = 255

-- different names in both files
abbrev pub most_items : ℕ
most_items = 1048576

-- the ancestors of all items of the hierarchy file, each item an ancestor of itself
abbrev pub most_ancestors : ℕ
most_ancestors = 33554432

abbrev pub most_sequences : ℕ
most_sequences = 4194304

-- items of a sequence
abbrev pub most_length : ℕ
most_length = 65535

abbrev pub most_weight : ℕ
most_weight = 1000000000

abbrev pub most_support : ℕ
most_support = 1000000000000000000

abbrev pub most_workers : ℕ
most_workers = 64

-- bytes of an expression
abbrev pub most_expression_bytes : ℕ
most_expression_bytes = 4096

-- a number of a repeat
abbrev pub most_times : ℕ
most_times = 1024

-- item expressions once all repetitions are written out
abbrev pub most_leaves : ℕ
most_leaves = 1024

-- a greater number of leaves is told as this
abbrev pub most_told_leaves : ℕ
most_told_leaves = 1000000

-- a greater number of pairs of a sequence and a candidate is told as this
abbrev pub most_told_pairs : ℕ
most_told_pairs = 2 ^ 64 - 1

-- brackets that are open at once, and postfix signs in a row
abbrev pub most_nested : ℕ
most_nested = 128
