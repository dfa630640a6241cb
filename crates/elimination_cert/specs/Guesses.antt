-- The node that a line is taken to spell, whatever its bytes. A line that spells a node spells this one, so it is enough to write the
-- guess again and to compare the bytes.
use Rattle.std.specs.Prelude.{ℕ, ◌+◌, ◌-◌, ◌*◌, ◌^◌, ◌==◌, if◌then◌else◌, nat_lt, min, List, [], ◌∷◌, length, map, take, drop, slice_index, codes, bytes_eq, bit_or, set}
use Rattle.std.specs.List.{onto_first}
use Rattle.source_sink.specs.Decimals.{value_behind}
use Rattle.state_space.specs.Members.{full_of}
use Rattle.tableau_rules.specs.Sets.{with_number}
use Rattle.tableau_rules.specs.Certificates.{ReasonForm, clash, dead, wait, CertNodeForm}

-- the bytes before the first such byte
abbrev pub before : ℕ → List ℕ → List ℕ
before byte [] = []
before byte (b ∷ bytes) = if b == byte then [] else b ∷ before byte bytes

-- the bytes behind the first such byte
abbrev pub behind : ℕ → List ℕ → List ℕ
behind byte [] = []
behind byte (b ∷ bytes) = if b == byte then bytes else behind byte bytes

-- the pieces of a text between such bytes
abbrev pub pieces : ℕ → List ℕ → List (List ℕ)
pieces byte [] = []
pieces byte (b ∷ bytes) = if b == byte then [] ∷ pieces byte bytes else onto_first b (pieces byte bytes)

-- the number that the digits are, or the greatest of 32 bits
unfoldable pub number_in : List ℕ → ℕ
number_in digits = min (value_behind 0 digits) 4294967295

-- the number that the digits are, or the greatest of 16 bits
unfoldable pub small_in : List ℕ → ℕ
small_in digits = min (number_in digits) 65535

-- a list without the `-` of an empty one
abbrev pub listed_in : List ℕ → List ℕ
listed_in bytes = if bytes_eq bytes (codes "-") then [] else bytes

-- the formulas with those of the texts
abbrev pub with_all : List (List ℕ) → List ℕ → List ℕ
with_all [] formulas = formulas
with_all (text ∷ texts) formulas = with_all texts (with_number (small_in text) formulas)

-- the numbers of formulas in a list `3,5,8`, ascending
unfoldable pub formulas_in : List ℕ → List ℕ
formulas_in bytes = with_all (pieces 44 (listed_in bytes)) []

-- the first two kids of a list
unfoldable pub kids_in : List ℕ → List ℕ
kids_in bytes = take 2 (map number_in (pieces 44 (listed_in bytes)))

-- the set with one index more, if it is below the size
abbrev pub with_value : ℕ → List ℕ → ℕ → ℕ
with_value size text indexes = if nat_lt (number_in text) size then bit_or indexes (2 ^ number_in text) else indexes

-- the set with the indexes of the texts
abbrev pub with_values : ℕ → List (List ℕ) → ℕ → ℕ
with_values size [] indexes = indexes
with_values size (text ∷ texts) indexes = with_values size texts (with_value size text indexes)

-- the set of the indexes below the size, with `+` between them
unfoldable pub set_in : ℕ → List ℕ → ℕ
set_in size bytes = with_values size (pieces 43 bytes) 0

-- the sets with the one of an entry, if it is of a variable
abbrev pub with_entry : List ℕ → List ℕ → List ℕ → List ℕ
with_entry sizes now entry =
    if nat_lt (number_in (before 61 entry)) (length sizes) then set now (number_in (before 61 entry)) (set_in (slice_index sizes (number_in (before 61 entry))) (behind 61 entry)) else now

-- the sets with those of the entries
abbrev pub with_entries : List ℕ → List (List ℕ) → List ℕ → List ℕ
with_entries sizes [] now = now
with_entries sizes (entry ∷ entries) now = with_entries sizes entries (with_entry sizes now entry)

-- all sets, full where no entry has another
unfoldable pub now_in : List ℕ → List ℕ → List ℕ
now_in sizes bytes = with_entries sizes (pieces 44 (listed_in bytes)) (full_of sizes)

-- what begins neither with `clash` nor with `dead` is taken for a wait
unfoldable pub reason_in : List ℕ → ReasonForm
reason_in bytes =
    if bytes_eq (before 32 bytes) (codes "clash") then clash
    else if bytes_eq (before 32 bytes) (codes "dead") then dead
    else wait (small_in (before 32 (behind 32 bytes)))

-- what stands behind the reason
unfoldable pub behind_reason : List ℕ → List ℕ
behind_reason bytes =
    if bytes_eq (before 32 bytes) (codes "clash") then behind 32 bytes
    else if bytes_eq (before 32 bytes) (codes "dead") then behind 32 bytes
    else behind 32 (behind 32 bytes)

-- the field that stands behind one word, both up to a blank
abbrev pub field : List ℕ → List ℕ
field bytes = before 32 (behind 32 bytes)

-- what stands behind the field that follows one word
abbrev pub behind_field : List ℕ → List ℕ
behind_field bytes = behind 32 (behind 32 bytes)

-- a node of a rank and a reason, from the word `todo` on
abbrev pub node_behind : List ℕ → ℕ → ReasonForm → List ℕ → CertNodeForm
node_behind sizes rank reason bytes =
    record {
      node = record {
        todo = formulas_in (field bytes);
        now = now_in sizes (field (behind_field bytes));
        next = formulas_in (field (behind_field (behind_field bytes)));
      };
      kids = kids_in (before 10 (behind 32 (behind_field (behind_field (behind_field bytes)))));
      rank = rank;
      reason = reason;
    }

-- the node that a line is taken to spell
abbrev pub node_in : List ℕ → List ℕ → CertNodeForm
node_in sizes line = node_behind sizes (number_in (before 32 line)) (reason_in (behind 32 line)) (behind_reason (behind 32 line))

-- the number of nodes behind `certificate `
abbrev pub count_in : List ℕ → ℕ
count_in line = number_in (before 10 (drop 12 line))
