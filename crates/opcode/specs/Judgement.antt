-- Rule 4.1, 7 to 11: the refusals of a command, from its opcode, its options and its data. Reading and making share them.
use Rattle.std.specs.Prelude.{ℕ, ◌+◌, ◌*◌, ◌%◌, Bool, false, cond, not, ◌&&◌, ◌||◌, List, [], ◌∷◌, length, drop, eqb, leb, ltb}
use Rattle.wire.specs.Numbers.{byte_at, word_at}
use Rattle.wire.specs.Tables.{words}
use Rattle.gain_words.specs.Gains.{first_large}
use Rattle.gain_words.specs.Pairs.{pair_fault}
use Rattle.opcode.specs.Options.{has_length, is_read}
use Rattle.opcode.specs.Fields.{fault, words_at, rise}
use Rattle.opcode.specs.Commands.{command_of, not_carried, variable}

-- Rule 4.1, 7: the opcode is not carried. No opcode over 255 is on the list.
abbrev pub unknown : ℕ → Bool
unknown op = eqb (command_of op).kind not_carried

-- Rule 4.1, 8: a write without a length field, of a command that varies in size. These are 2Bh, 34h, 35h and 38h.
abbrev pub lacks_length : ℕ → ℕ → Bool
lacks_length op o = eqb (is_read o) 0 && eqb (command_of op).kind variable && eqb (has_length o) 0

-- Rule 5.9, 34h: 2 + 4n bytes, n at least 1.
unfoldable pub points_size_wrong : List ℕ → Bool
points_size_wrong d = not (leb 6 (length d) && eqb (length d % 4) 2)

-- Rule 5.11: with compression 1 the words are pairs.
abbrev pub in_pairs : List ℕ → Bool
in_pairs d = eqb (byte_at d 0) 1

-- Rules 5.9 and 5.11, 2Bh: 6 + 2 × count bytes; an odd count makes no pairs.
unfoldable pub gains_size_wrong : List ℕ → Bool
gains_size_wrong d =
    not (leb 6 (length d) && eqb (length d) (6 + 2 * word_at d 2)) || (in_pairs d && eqb (word_at d 2 % 2) 1)

-- Rule 5.9, 35h: 5 bytes in mode 0 and 189 in mode 1; none is wrong too. A mode above 1 has no size of its own, so that its value
-- is refused.
unfoldable pub control_size_wrong : List ℕ → Bool
control_size_wrong d =
    eqb (length d) 0
    || cond (eqb (byte_at d 0) 0) (not (eqb (length d) 5)) (cond (eqb (byte_at d 0) 1) (not (eqb (length d) 189)) false)

-- Rule 5.9, 38h: two counts and a point for each of columns × rows; under 2 bytes is wrong. With counts out of range no size is
-- wrong, so that these are refused.
unfoldable pub smooth_size_wrong : List ℕ → Bool
smooth_size_wrong d =
    ltb (length d) 2
    || cond (ltb (fault (command_of 0x38).sets d 0) 2) false (not (eqb (length d) (2 + 4 * (byte_at d 0 * byte_at d 1))))

-- Rule 5.9: the four writes whose size varies.
abbrev pub variable_size_wrong : ℕ → List ℕ → Bool
variable_size_wrong op d =
    cond (eqb op 0x2B) (gains_size_wrong d)
    (cond (eqb op 0x34) (points_size_wrong d) (cond (eqb op 0x35) (control_size_wrong d) (smooth_size_wrong d)))

-- Rule 4.1, 9: the size is wrong for the command.
unfoldable pub size_wrong : ℕ → ℕ → List ℕ → Bool
size_wrong op o d =
    cond (eqb (is_read o) 1) (not (eqb (length d) (command_of op).read))
    (cond (eqb (command_of op).kind variable) (variable_size_wrong op d) (not (eqb (length d) (command_of op).write)))

-- Rules 5.8 and 5.11: of a 2Bh write's words, which are gains or pairs, the index of the first at fault.
unfoldable pub words_fault : List ℕ → ℕ
words_fault d = cond (in_pairs d) (pair_fault (words (drop 6 d))) (first_large (words (drop 6 d)))

-- Rules 5.8 and 5.11: the place of the first value at fault in a 2Bh write: its four fields; then its words. A place below the data's
-- length is a fault.
unfoldable pub gains_fault : List ℕ → ℕ
gains_fault d =
    cond (ltb (fault (command_of 0x2B).sets d 0) 6) (fault (command_of 0x2B).sets d 0)
    (6 + 2 * words_fault d)

-- Rule 5.5: in a 35h write of mode 1, where the 62 numbers or the 32 do not rise.
unfoldable pub lists_fault : List ℕ → ℕ
lists_fault d =
    cond (ltb (rise (words_at d 1 62)) 62) (1 + 2 * rise (words_at d 1 62)) (125 + 2 * rise (words_at d 125 32))

-- Rule 5.5: in mode 0, columns and rows; a mode above 1 is a fault of the first field.
unfoldable pub control_fault : List ℕ → ℕ
control_fault d = cond (eqb (byte_at d 0) 1) (lists_fault d) (fault (command_of 0x35).sets d 0)

-- Rule 5.7: in a 38h write, its two counts. Points are any.
unfoldable pub smooth_fault : List ℕ → ℕ
smooth_fault d = cond (ltb (fault (command_of 0x38).sets d 0) 2) (fault (command_of 0x38).sets d 0) (length d)

-- Rule 5.4: a 34h write has no value at fault, as points are any.
abbrev pub variable_fault : ℕ → List ℕ → ℕ
variable_fault op d =
    cond (eqb op 0x2B) (gains_fault d) (cond (eqb op 0x34) (length d) (cond (eqb op 0x35) (control_fault d) (smooth_fault d)))

-- Rule 4.1, 10: the place of the first value at fault, in packet order; the data's length for none.
unfoldable pub value_fault : ℕ → ℕ → List ℕ → ℕ
value_fault op o d =
    cond (eqb (is_read o) 1) (fault (command_of op).asks d 0)
    (cond (eqb (command_of op).kind variable) (variable_fault op d) (fault (command_of op).sets d 0))

-- Rule 4.1, 10: some value is at fault.
abbrev pub value_wrong : ℕ → ℕ → List ℕ → Bool
value_wrong op o d = ltb (value_fault op o d) (length d)

-- Rule 4.1, 11: merge mode of 39h, which the guides name and we do not carry.
abbrev pub named_only : ℕ → ℕ → List ℕ → Bool
named_only op o d = eqb (is_read o) 0 && eqb op 0x39 && eqb (byte_at d 0) 1

-- Rule 4.1: rows 7 to 11, in order.
unfoldable pub judgement : ℕ → ℕ → List ℕ → List (ℕ × Bool)
judgement op o d =
    (7, unknown op)
    ∷ (8, lacks_length op o)
    ∷ (9, size_wrong op o d)
    ∷ (10, value_wrong op o d)
    ∷ (11, named_only op o d)
    ∷ []

-- Rule 4.6: the place that a refusal names: that of 10 is the first value at fault, any other has none.
abbrev pub fault_place : ℕ → ℕ → ℕ → List ℕ → ℕ
fault_place number op o d = cond (eqb number 10) (value_fault op o d) 0
