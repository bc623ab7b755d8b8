-- Rule 5.1: the eighteen commands carried, as its table and rules 5.4 to 5.8 have them.
use Rattle.std.specs.Prelude.{ℕ, cond, List, [], ◌∷◌, eqb}
use Rattle.opcode.specs.declared.Field.{Field}
use Rattle.opcode.specs.declared.Kind.{Kind}
use Rattle.opcode.specs.declared.Kind.TheVariants.{NotCarried, Fixed, Varies}
use Rattle.opcode.specs.declared.Row.{Row}
use Rattle.opcode.specs.Fields.{byte, word, from_to, from_to_but}

-- Rule 5.2: the kind, and the data sizes of write, read and return, 0 where they vary. Then the fields of a write's data and of a
-- read's, in packet order; where a write's size varies, those of its fixed head.
pub record Command : Type 0 where
  pub opcode : ℕ
  pub kind : ℕ
  pub write : ℕ
  pub read : ℕ
  pub back : ℕ
  pub sets : List Field
  pub asks : List Field

-- Rule 5.2: the kinds.
abbrev pub not_carried : ℕ
not_carried = 0

abbrev pub fixed : ℕ
fixed = 1

abbrev pub variable : ℕ
variable = 2

-- Field of 0 or 1.
abbrev pub flag : Field
flag = byte 0 1

abbrev pub any_word : Field
any_word = word 0 65535

-- Rule 5.1, 60h and 61h: pin 0-87.
abbrev pub pin : Field
pin = byte 0 87

-- Rule 5.1, 65h: ports 0 to 10, and 13; any other is out of range.
abbrev pub pwm_port : Field
pwm_port = from_to_but 1 0 13 11 13

-- Rule 5.1, 6Dh: port 0-2.
abbrev pub uart_port : Field
uart_port = byte 0 2

-- Rule 5.1: a command whose read sends nothing and returns what a write sends.
abbrev pub plain : ℕ → ℕ → List Field → Command
plain op size fields = record { opcode = op; kind = fixed; write = size; read = 0; back = size; sets = fields; asks = [] }

-- Rule 5.1: a command whose read sends the pin or port, and returns the fields behind it.
abbrev pub ported : ℕ → ℕ → ℕ → Field → List Field → Command
ported op size returned port fields =
    record { opcode = op; kind = fixed; write = size; read = 1; back = returned; sets = port ∷ fields; asks = port ∷ [] }

-- Rules 5.4, 5.5, 5.7 and 5.8: a command whose write varies in size.
abbrev pub varying : ℕ → ℕ → List Field → List Field → Command
varying op size head asked =
    record { opcode = op; kind = variable; write = 0; read = size; back = 0; sets = head; asks = asked }

-- Rule 5.1, and for those that vary and 36h the rules named.
abbrev pub commands : List Command
commands =
    -- 11h: display 0-4
    plain 0x11 1 (byte 0 4 ∷ [])
    -- 12h: low latency 0-1
    ∷ plain 0x12 1 (flag ∷ [])
    -- 13h: look, any 16-bit number
    ∷ plain 0x13 2 (any_word ∷ [])
    -- 1Ah: curtain colour 0, 2-8
    ∷ plain 0x1A 1 (from_to_but 1 0 8 1 2 ∷ [])
    -- 1Bh: splash, any byte
    ∷ plain 0x1B 1 (byte 0 255 ∷ [])
    -- 1Ch: flip 0-3
    ∷ plain 0x1C 1 (byte 0 3 ∷ [])
    -- 1Dh: freeze 0-1
    ∷ plain 0x1D 1 (flag ∷ [])
    -- 2Bh, rule 5.8: compression 0-1, colour 0-3, a count of 1 or more, start; a read sends colour 1-3, start, count 1-254
    ∷ varying 0x2B 5 (flag ∷ byte 0 3 ∷ word 1 65535 ∷ any_word ∷ []) (byte 1 3 ∷ any_word ∷ word 1 254 ∷ [])
    -- 34h, rule 5.4: start; a read sends start, count 1-127
    ∷ varying 0x34 4 (any_word ∷ []) (any_word ∷ word 1 127 ∷ [])
    -- 35h, rule 5.5, in mode 0: mode, columns 2-62, rows 2-32; a read sends nothing
    ∷ varying 0x35 0 (flag ∷ word 2 62 ∷ word 2 32 ∷ []) []
    -- 36h, rule 5.6: apply 0-1
    ∷ plain 0x36 1 (flag ∷ [])
    -- 38h, rule 5.7: columns 3-5, rows 3-5; a read sends nothing
    ∷ varying 0x38 0 (byte 3 5 ∷ byte 3 5 ∷ []) []
    -- 39h: update mode 0; 1 is refusal 11, and so no value out of range
    ∷ plain 0x39 1 (flag ∷ [])
    -- 60h: pin, direction, level, drain
    ∷ ported 0x60 4 3 pin (flag ∷ flag ∷ flag ∷ [])
    -- 61h: pin, level
    ∷ ported 0x61 2 1 pin (flag ∷ [])
    -- 65h: port, frequency 20-10,390,000 in four bytes, duty 0-100, on 0-1
    ∷ ported 0x65 7 6 pwm_port (from_to 4 20 10_390_000 ∷ byte 0 100 ∷ flag ∷ [])
    -- 6Ch: EEPROM lock 0-1
    ∷ plain 0x6C 1 (flag ∷ [])
    -- 6Dh: port, on, baud, bits, stop, parity, flow, two triggers, polarity, source
    ∷ ported 0x6D 11 10 uart_port (flag ∷ byte 0 11 ∷ byte 0 3 ∷ flag ∷ byte 0 2 ∷ flag ∷ byte 0 4 ∷ byte 0 4 ∷ flag ∷ flag ∷ [])
    ∷ []

-- Rule 4.1, 7: what any other opcode is.
abbrev pub none : Command
none = record { opcode = 0; kind = not_carried; write = 0; read = 0; back = 0; sets = []; asks = [] }

abbrev pub look_up : ℕ → List Command → Command
look_up op [] = none
look_up op (c ∷ cs) = cond (eqb op c.opcode) c (look_up op cs)

-- Rules 5.1 and 4.1, 7: the command of an opcode, `none` where it is not carried.
unfoldable pub command_of : ℕ → Command
command_of op = look_up op commands

-- Rule 5.2: what the table of 256 rows says of an opcode.
pub record RowTold : Type 0 where
  pub kind : ℕ
  pub write : ℕ
  pub read : ℕ
  pub back : ℕ

abbrev pub row_of : ℕ → RowTold
row_of op =
    record { kind = (command_of op).kind; write = (command_of op).write; read = (command_of op).read; back = (command_of op).back }

-- The number of each of the code's kinds, and the code's row as such a record.
abbrev pub kind_number : Kind → ℕ
kind_number NotCarried = not_carried
kind_number Fixed = fixed
kind_number Varies = variable

abbrev pub told : Row → RowTold
told r = record { kind = kind_number r.kind; write = r.write; read = r.read; back = r.back }
