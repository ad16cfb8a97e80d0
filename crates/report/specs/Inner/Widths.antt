-- How many bytes each line takes at most: its head, its words and numbers, and the line end.
use Rattle.std.specs.Prelude.{ℕ, ◌+◌, ◌*◌, ◌^◌}
use Rattle.book.specs.Format.{step_limit}

-- the digits of a number below 1,000
abbrev pub number_digits : ℕ
number_digits = 3

-- what has number_digits digits at most
abbrev pub number_limit : ℕ
number_limit = 10 ^ number_digits

-- the digits of any place
abbrev pub place_digits : ℕ
place_digits = 20

-- a number of a list, and the blank before it
abbrev pub number_width : ℕ
number_width = 1 + number_digits

-- yes or no, and the line end
abbrev pub answer_width : ℕ
answer_width = 3 + 1

abbrev pub done_width : ℕ
done_width = 5 + number_digits + 1

abbrev pub serial_width : ℕ
serial_width = 7 + answer_width

abbrev pub atomic_width : ℕ
atomic_width = 7 + answer_width

abbrev pub relserial_width : ℕ
relserial_width = 10 + answer_width

abbrev pub conflict_width : ℕ
conflict_width = 9 + answer_width

abbrev pub classes_width : ℕ
classes_width = serial_width + atomic_width + relserial_width + conflict_width

abbrev pub verdict_width : ℕ
verdict_width = 15 + 1

abbrev pub evidence_width : ℕ
evidence_width = 5 + number_width * step_limit + 1

-- a letter, and the blank before it
abbrev pub letter_width : ℕ
letter_width = 1 + 1

abbrev pub arcs_width : ℕ
arcs_width = 4 + letter_width * step_limit + 1

abbrev pub refused_width : ℕ
refused_width = 8 + number_digits + 4 + place_digits + 1

-- all lines of an accepted book; the one line of a refused book is shorter
abbrev pub text_limit : ℕ
text_limit = done_width + classes_width + verdict_width + evidence_width + arcs_width
