-- Rule 8.1: the bench packets and plans with a star, one table for one statement. Each row of a packet: the packets before it
-- from reset on, the packet, the status and the place of its fault, all bytes of the reply, and the whole state after. Each row of a plan: the number of
-- points, held and wanted, the whole answer, and all of the four lists that planning leaves.
use Rattle.std.specs.Prelude.{ℕ, ◌+◌, List, [], ◌∷◌, ◌++◌, set, replicate}
use Rattle.std.proofs.lemmas.List.Edits.{sets}
use Rattle.settings.specs.Reset.{reset_map}
use Rattle.front_end.specs.State.{State, reset_state}
use Rattle.front_end.specs.Calls.{calls_of, state_after_all}
use Rattle.upload.specs.Plain.{PlanLists}
use Rattle.upload.specs.Planning.{plan_lists}

pub record PacketRow : Type 0 where
  pub before : List (List ℕ)
  pub packet : List ℕ
  pub status : ℕ
  pub fault-place : ℕ
  pub reply : List ℕ
  pub after : State

pub record PlanRow : Type 0 where
  pub n : ℕ
  pub held : List ℕ
  pub wanted : List ℕ
  pub status : ℕ
  pub packets : ℕ
  pub bytes : ℕ
  pub plan : List ℕ
  pub room : List ℕ
  pub choices : List ℕ
  pub batch : List ℕ

pub data BenchRow : Type 0 where
  packets : PacketRow → BenchRow
  plans : PlanRow → BenchRow

-- A reply buffer of 512 bytes whose pattern shows what was written.
abbrev pub buffer : List ℕ
buffer = replicate 512 0xA5

-- A plan, a working room, choices and a batch buffer of such patterns; all but the plan one longer than they must be.
abbrev pub blank : PlanLists
blank = plan_lists (replicate 3968 0xA5A5) (replicate 128 0xA5A5A5A5) (replicate 1985 0xA5) (replicate 8033 0xA5)

-- The state after packets taken one after another from reset on.
abbrev pub state_after : List (List ℕ) → State
state_after ps = state_after_all (calls_of buffer ps) reset_state

-- A map with one point changed, its two numbers from a place on.
abbrev pub with_numbers : List ℕ → ℕ → ℕ → ℕ → List ℕ
with_numbers map place x y = set (set map place x) (place + 1) y

-- Reset, with one byte of the block, a staged point, or gains from a place on changed.
abbrev pub with_setting : ℕ → ℕ → State
with_setting place v =
    record {
      block = set reset_state.block place v;
      staged = reset_state.staged;
      live = reset_state.live;
      gains = reset_state.gains;
    }

-- With a byte of the row mark, which says that the point's row moved.
abbrev pub with_point : ℕ → ℕ → ℕ → ℕ → ℕ → State
with_point place x y mark_place mark =
    record {
      block = set reset_state.block mark_place mark;
      staged = with_numbers reset_state.staged place x y;
      live = reset_state.live;
      gains = reset_state.gains;
    }

abbrev pub with_gains : ℕ → List ℕ → State
with_gains place new =
    record {
      block = reset_state.block;
      staged = reset_state.staged;
      live = reset_state.live;
      gains = sets reset_state.gains place new;
    }

abbrev pub row : List ℕ → ℕ → List ℕ → State → BenchRow
row packet status reply after = packets (record { before = []; packet = packet; status = status; fault-place = 0; reply = reply; after = after })

-- A refused packet, with no reply asked for.
abbrev pub refused : List ℕ → ℕ → BenchRow
refused packet number = row packet number [] reset_state

-- Rule 4.6: a packet that is refused by 10, for the value at this place of its data, and the reply.
abbrev pub faulty : List ℕ → ℕ → List ℕ → BenchRow
faulty packet place reply =
    packets (record { before = []; packet = packet; status = 10; fault-place = place; reply = reply; after = reset_state })

-- Rule 8.1: the last point of the map after reset, 1983, in row 31, becomes (1, 2).
abbrev pub last_point : List ℕ
last_point = 0x14 ∷ 0x34 ∷ 0x06 ∷ 0x00 ∷ 0xBF ∷ 0x07 ∷ 0x01 ∷ 0x00 ∷ 0x02 ∷ 0x00 ∷ []

-- A packet after it.
abbrev pub after_point : List ℕ → State → BenchRow
after_point packet after = packets (record { before = last_point ∷ []; packet = packet; status = 0; fault-place = 0; reply = []; after = after })

-- Rule 8.1.
abbrev pub rows : List BenchRow
rows =
    -- * empty: 2. * `24 11`: 2.
    refused [] 2
    ∷ refused (0x24 ∷ 0x11 ∷ []) 2
    -- * `04 11 01`: accepted, no reply.
    ∷ row (0x04 ∷ 0x11 ∷ 0x01 ∷ []) 0 [] (with_setting 0 1)
    -- * `84 11` after it: reply `00 01 00 01`.
    ∷ packets (record {
      before = (0x04 ∷ 0x11 ∷ 0x01 ∷ []) ∷ [];
      packet = 0x84 ∷ 0x11 ∷ [];
      status = 0;
      fault-place = 0;
      reply = 0x00 ∷ 0x01 ∷ 0x00 ∷ 0x01 ∷ [];
      after = with_setting 0 1;
    })
    -- * `44 11 01`: reply `00 00 00`.
    ∷ row (0x44 ∷ 0x11 ∷ 0x01 ∷ []) 0 (0x00 ∷ 0x00 ∷ 0x00 ∷ []) (with_setting 0 1)
    -- * `0C 11 00 01`: accepted as `04 11 01`.
    ∷ row (0x0C ∷ 0x11 ∷ 0x00 ∷ 0x01 ∷ []) 0 [] (with_setting 0 1)
    -- * `24 11 01 8F` accepted; `24 11 01 36`: 5.
    ∷ row (0x24 ∷ 0x11 ∷ 0x01 ∷ 0x8F ∷ []) 0 [] (with_setting 0 1)
    ∷ refused (0x24 ∷ 0x11 ∷ 0x01 ∷ 0x36 ∷ []) 5
    -- * `60` alone: 2, with the reply `02 00 00 06`. * `04 10 00`: 7.
    ∷ row (0x60 ∷ []) 2 (0x02 ∷ 0x00 ∷ 0x00 ∷ 0x06 ∷ []) reset_state
    ∷ refused (0x04 ∷ 0x10 ∷ 0x00 ∷ []) 7
    -- * `04 11 05`: 10, at data byte 0. * `04 1A 01`: 10, at 0; `04 1A 02` accepted. * `04 39 01`: 11; `04 39 02`: 10, at 0.
    ∷ faulty (0x04 ∷ 0x11 ∷ 0x05 ∷ []) 0 []
    ∷ faulty (0x04 ∷ 0x1A ∷ 0x01 ∷ []) 0 []
    ∷ row (0x04 ∷ 0x1A ∷ 0x02 ∷ []) 0 [] (with_setting 4 2)
    ∷ refused (0x04 ∷ 0x39 ∷ 0x01 ∷ []) 11
    ∷ faulty (0x04 ∷ 0x39 ∷ 0x02 ∷ []) 0 []
    -- * `03 11 01`: 6. * `14 11 02 00 01`: 4.
    ∷ refused (0x03 ∷ 0x11 ∷ 0x01 ∷ []) 6
    ∷ refused (0x14 ∷ 0x11 ∷ 0x02 ∷ 0x00 ∷ 0x01 ∷ []) 4
    -- * `04 34 00 00 08 00 10 00`: 8. * `14 34 02 00 00 00`: 9.
    ∷ refused (0x04 ∷ 0x34 ∷ 0x00 ∷ 0x00 ∷ 0x08 ∷ 0x00 ∷ 0x10 ∷ 0x00 ∷ []) 8
    ∷ refused (0x14 ∷ 0x34 ∷ 0x02 ∷ 0x00 ∷ 0x00 ∷ 0x00 ∷ []) 9
    -- * `14 34 06 00 BF 07 01 00 02 00`: point 1983 becomes (1, 2), and row 31 is marked. * With `C0 07`: 12.
    ∷ row last_point 0 [] (with_point 3966 1 2 868 0x80)
    ∷ refused (0x14 ∷ 0x34 ∷ 0x06 ∷ 0x00 ∷ 0xC0 ∷ 0x07 ∷ 0x01 ∷ 0x00 ∷ 0x02 ∷ 0x00 ∷ []) 12
    -- After it, rule 11.2: * the same point back where it was, and * a shape of 2 × 2: no row is marked. * `04 36 00` leaves the mark, * `04 36 01` clears it.
    ∷ after_point (0x14 ∷ 0x34 ∷ 0x06 ∷ 0x00 ∷ 0xBF ∷ 0x07 ∷ 0x00 ∷ 0x00 ∷ 0x00 ∷ 0x00 ∷ []) reset_state
    ∷ after_point (0x14 ∷ 0x35 ∷ 0x05 ∷ 0x00 ∷ 0x00 ∷ 0x02 ∷ 0x00 ∷ 0x02 ∷ 0x00 ∷ [])
    (record {
      block = set (set reset_state.block 9 2) 11 2;
      staged = with_numbers reset_state.staged 3966 1 2;
      live = reset_state.live;
      gains = reset_state.gains;
    })
    ∷ after_point (0x04 ∷ 0x36 ∷ 0x00 ∷ []) (with_point 3966 1 2 868 0x80)
    ∷ after_point (0x04 ∷ 0x36 ∷ 0x01 ∷ [])
    (record {
      block = set reset_state.block 201 1;
      staged = with_numbers reset_state.staged 3966 1 2;
      live = with_numbers reset_state.live 3966 1 2;
      gains = reset_state.gains;
    })
    -- * `14 2B 08 00 00 01 01 00 DF 07 00 14`: red gain 2015 becomes 5120.
    ∷ row (0x14 ∷ 0x2B ∷ 0x08 ∷ 0x00 ∷ 0x00 ∷ 0x01 ∷ 0x01 ∷ 0x00 ∷ 0xDF ∷ 0x07 ∷ 0x00 ∷ 0x14 ∷ []) 0 [] (with_gains 2015 (5120 ∷ []))
    -- * `14 2B 0A 00 01 01 02 00 DE 07 02 00 00 14`: red gains 2014 and 2015 become 5120. * With `DF 07`: 12. * With a run of 0: 10, at 6.
    ∷ row (0x14 ∷ 0x2B ∷ 0x0A ∷ 0x00 ∷ 0x01 ∷ 0x01 ∷ 0x02 ∷ 0x00 ∷ 0xDE ∷ 0x07 ∷ 0x02 ∷ 0x00 ∷ 0x00 ∷ 0x14 ∷ []) 0 []
    (with_gains 2014 (5120 ∷ 5120 ∷ []))
    ∷ refused (0x14 ∷ 0x2B ∷ 0x0A ∷ 0x00 ∷ 0x01 ∷ 0x01 ∷ 0x02 ∷ 0x00 ∷ 0xDF ∷ 0x07 ∷ 0x02 ∷ 0x00 ∷ 0x00 ∷ 0x14 ∷ []) 12
    ∷ faulty (0x14 ∷ 0x2B ∷ 0x0A ∷ 0x00 ∷ 0x01 ∷ 0x01 ∷ 0x02 ∷ 0x00 ∷ 0xDE ∷ 0x07 ∷ 0x00 ∷ 0x00 ∷ 0x00 ∷ 0x14 ∷ []) 6 []
    -- * An odd count: 9; with compression 2: 10, at 0. * No words: 10, at 2. * A gain of 8,192, a run of 2,017, a colour of 4: 10, at 8, 6 and 1.
    ∷ refused (0x14 ∷ 0x2B ∷ 0x08 ∷ 0x00 ∷ 0x01 ∷ 0x01 ∷ 0x01 ∷ 0x00 ∷ 0x00 ∷ 0x00 ∷ 0x02 ∷ 0x00 ∷ []) 9
    ∷ faulty (0x14 ∷ 0x2B ∷ 0x08 ∷ 0x00 ∷ 0x02 ∷ 0x01 ∷ 0x01 ∷ 0x00 ∷ 0x00 ∷ 0x00 ∷ 0x02 ∷ 0x00 ∷ []) 0 []
    ∷ faulty (0x14 ∷ 0x2B ∷ 0x06 ∷ 0x00 ∷ 0x01 ∷ 0x01 ∷ 0x00 ∷ 0x00 ∷ 0x00 ∷ 0x00 ∷ []) 2 []
    ∷ faulty (0x14 ∷ 0x2B ∷ 0x0A ∷ 0x00 ∷ 0x01 ∷ 0x01 ∷ 0x02 ∷ 0x00 ∷ 0x00 ∷ 0x00 ∷ 0x01 ∷ 0x00 ∷ 0x00 ∷ 0x20 ∷ []) 8 []
    ∷ faulty (0x14 ∷ 0x2B ∷ 0x0A ∷ 0x00 ∷ 0x01 ∷ 0x01 ∷ 0x02 ∷ 0x00 ∷ 0x00 ∷ 0x00 ∷ 0xE1 ∷ 0x07 ∷ 0x00 ∷ 0x14 ∷ []) 6 []
    ∷ faulty (0x14 ∷ 0x2B ∷ 0x0A ∷ 0x00 ∷ 0x01 ∷ 0x04 ∷ 0x02 ∷ 0x00 ∷ 0x00 ∷ 0x00 ∷ 0x01 ∷ 0x00 ∷ 0x00 ∷ 0x14 ∷ []) 1 []
    -- * Two pairs: green gains 3 to 5 become 5120, 5120 and 8191.
    ∷ row (0x14 ∷ 0x2B ∷ 0x0E ∷ 0x00 ∷ 0x01 ∷ 0x02 ∷ 0x04 ∷ 0x00 ∷ 0x03 ∷ 0x00 ∷ 0x02 ∷ 0x00 ∷ 0x00 ∷ 0x14 ∷ 0x01 ∷ 0x00 ∷ 0xFF ∷ 0x1F ∷ []) 0 []
    (with_gains 2019 (5120 ∷ 5120 ∷ 8191 ∷ []))
    -- * The guide's two first pairs, 63 of 4,096 and 0 of 63, with a reply requested: 10, at 10, with the reply `0A 02 00 0A 00`.
    ∷ faulty (0x54 ∷ 0x2B ∷ 0x0E ∷ 0x00 ∷ 0x01 ∷ 0x00 ∷ 0x04 ∷ 0x00 ∷ 0x00 ∷ 0x00 ∷ 0x3F ∷ 0x00 ∷ 0x00 ∷ 0x10 ∷ 0x00 ∷ 0x00 ∷ 0x3F ∷ 0x00 ∷ []) 10
    (0x0A ∷ 0x02 ∷ 0x00 ∷ 0x0A ∷ 0x00 ∷ [])
    -- * A UART of baud 12 and parity 3, with checksum and reply: 10, at the baud, with the reply `0A 02 00 02 00 3E`.
    ∷ faulty (0x64 ∷ 0x6D ∷ 0x00 ∷ 0x01 ∷ 0x0C ∷ 0x03 ∷ 0x00 ∷ 0x03 ∷ 0x00 ∷ 0x00 ∷ 0x00 ∷ 0x00 ∷ 0x00 ∷ 0xD0 ∷ []) 2
    (0x0A ∷ 0x02 ∷ 0x00 ∷ 0x02 ∷ 0x00 ∷ 0x3E ∷ [])
    -- * A read of pin 88: 10, at 0, with the reply `0A 02 00 00 00`.
    ∷ faulty (0x84 ∷ 0x60 ∷ 0x58 ∷ []) 0 (0x0A ∷ 0x02 ∷ 0x00 ∷ 0x00 ∷ 0x00 ∷ [])
    -- * Points 0 and 3: two packets of 10 bytes each.
    ∷ plans
    (record {
      n = 1984;
      held = reset_map;
      wanted = with_numbers (with_numbers reset_map 0 1 2) 6 9 0x20B;
      status = 0;
      packets = 2;
      bytes = 20;
      plan = 0 ∷ 1 ∷ 3 ∷ 1 ∷ replicate 3964 0xA5A5;
      room = 20 ∷ 10 ∷ 10 ∷ 10 ∷ (replicate 123 0 ++ (0xA5A5A5A5 ∷ []));
      choices = 1 ∷ 0 ∷ 0 ∷ 1 ∷ (replicate 1980 0 ++ (0xA5 ∷ []));
      batch =
          0x14 ∷ 0x34 ∷ 0x06 ∷ 0x00 ∷ 0x00 ∷ 0x00 ∷ 0x01 ∷ 0x00 ∷ 0x02 ∷ 0x00
          ∷ 0x14 ∷ 0x34 ∷ 0x06 ∷ 0x00 ∷ 0x03 ∷ 0x00 ∷ 0x09 ∷ 0x00 ∷ 0x0B ∷ 0x02
          ∷ replicate 8013 0xA5;
    })
    ∷ []
