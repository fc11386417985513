-- Document 01, "The listing": its table, its run call by call, its trace byte by byte, and its text.
use Rattle.std.specs.Prelude.{List, [], ◌∷◌, ◌++◌, ℕ, ◌/◌, ◌%◌}
use Prim.Native.String.{String}
use Rattle.rules.specs.Threads.{State}
use Rattle.rules.specs.Table.{Table}
use Rattle.rules.specs.Calls.{arrive, complete, step, after}
use Rattle.marked.specs.Example.{row, table_of, begin}

-- "Q 10; rows (application, share, period) 0 3 10, 0 2 10, 1 5 4"
abbrev pub table : Table
table = table_of 10 3 (row 0 3 10 ∷ row 0 2 10 ∷ row 1 5 4 ∷ [])

-- ---- "arrivals 0 of 0, 0 of 2, 2 of 1; completions 5 of 0, 6 of 1, 7 of 2; run to 8": the states at which a moment begins
abbrev pub at0 : State
at0 = begin table

abbrev pub at2 : State
at2 = after at0 (arrive 0 ∷ arrive 2 ∷ step ∷ step ∷ [])

abbrev pub at5 : State
at5 = after at2 (arrive 1 ∷ step ∷ step ∷ step ∷ [])

abbrev pub at6 : State
at6 = after at5 (complete 0 ∷ step ∷ [])

abbrev pub at7 : State
at7 = after at6 (complete 1 ∷ step ∷ [])

abbrev pub at8 : State
at8 = after at7 (complete 2 ∷ step ∷ [])

-- ---- the same as a trace
-- "little-endian"
abbrev pub two : ℕ → List ℕ
two n = n % 256 ∷ n / 256 ∷ []

abbrev pub four : ℕ → List ℕ
four n = two (n % 65536) ++ two (n / 65536)

-- the table of kinds: length, kind, body
abbrev pub head_record : ℕ → ℕ → List ℕ
head_record q n = two 6 ++ two 1 ++ two q ++ two n

abbrev pub row_record : ℕ → ℕ → ℕ → List ℕ
row_record a u p = two 10 ++ two 2 ++ two a ++ two u ++ four p

abbrev pub arrival_record : ℕ → ℕ → List ℕ
arrival_record t i = two 8 ++ two 3 ++ four t ++ two i

abbrev pub completion_record : ℕ → ℕ → List ℕ
completion_record t i = two 8 ++ two 4 ++ four t ++ two i

abbrev pub run_record : ℕ → List ℕ
run_record t = two 6 ++ two 5 ++ four t

abbrev pub drop_record : ℕ → ℕ → List ℕ
drop_record t i = two 8 ++ two 6 ++ four t ++ two i

-- head and rows of the table above
abbrev pub table_records : List ℕ
table_records = head_record 10 3 ++ row_record 0 3 10 ++ row_record 0 2 10 ++ row_record 1 5 4

abbrev pub trace : List ℕ
trace =
    table_records
    ++ arrival_record 0 0 ++ arrival_record 0 2 ++ arrival_record 2 1
    ++ completion_record 5 0 ++ completion_record 6 1 ++ completion_record 7 2
    ++ run_record 8

abbrev pub text : String
text = "tick thread app deadline virtual\n0 2 1 20 10\n1 2 1 20 20\n2 2 1 40 30\n3 2 1 40 40\n4 0 0 30 6\n5 1 0 24 2\n6 2 1 60 50\n7 - - - -\nend 8\n"
