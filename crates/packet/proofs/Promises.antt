-- What reading and making promise, from the equations that their code meets.
use Prim.Native.Nat.{ℕ, ◌<◌}
use mathlib.Core.Path.{◌≡◌, refl, sym, ap, ◌∙◌}
use mathlib.Core.List.{List, []}
use native.Mathlib.Omega.{arith}
use lib.ListN.{length, get_or}
use Rattle.opcode.specs.Options.{options_in}
use Rattle.opcode.specs.Judgement.{judgement, fault_place}
use Rattle.opcode.proofs.Faults.{Located}
use Rattle.opcode.proofs.Numbers.{CommandNumber}
use Rattle.opcode.proofs.Faults.{located}
use Rattle.opcode.proofs.Numbers.{command-number}
use Rattle.packet.specs.Frame.{opcode_of, options_of, data_of}
use Rattle.packet.specs.Reading.{frame_refusals, fault_of, Answer, reading}
use Rattle.packet.proofs.Frames.{reading-number, reading-fault}
use Rattle.packet.specs.Making.{Made, made}
use Rattle.packet.specs.Promises.{PacketRead, PacketMade}
use Rattle.packet.proofs.Exactly.{bytes-of-data, exactly}
use Rattle.packet.proofs.Makes.{make_front}
use Rattle.packet.proofs.MadeReads.{made-number, made-place, reads-as-made, refuses-as-read}
use Rattle.packet.proofs.MadeAgain.{made_again}
use Rattle.packet.proofs.Plain.{read_plain, make-plain}

-- Rule 4.6, of what reading and making answer.
read-located : (p : List ℕ) → ((k : ℕ) → get_or p k 0 < 256) → Located (opcode_of p) (options_of p) (data_of p) (reading p).number (reading p).fault-place
unfolding judgement
read-located p bytes =
    located (opcode_of p) (options_of p) (data_of p) (frame_refusals p) [] (omega arith) (bytes-of-data p bytes) (reading-number p)
    (reading-fault p ∙ ap (λ (n : ℕ). fault_of n p) (sym (reading-number p)))

make-located : (op options : ℕ) (d : List ℕ) → ((k : ℕ) → get_or d k 0 < 256) → (buffer : List ℕ)
    → Located op (options_in options) d (made op options d buffer).status (made op options d buffer).fault-place
unfolding judgement
make-located op options d bytes buffer =
    let number = made-number op options d buffer in
    located op (options_in options) d (make_front (options_in options) d (length buffer)) [] (omega arith) bytes number
    (made-place op options d buffer ∙ ap (λ (n : ℕ). fault_place n op (options_in options) d) (sym number))

-- Rule 4.1, of the same.
read-command : (p : List ℕ) → CommandNumber (opcode_of p) (options_of p) (data_of p) (reading p).number
unfolding judgement
read-command p = command-number (opcode_of p) (options_of p) (data_of p) (frame_refusals p) [] (omega arith) (reading-number p)

make-command : (op options : ℕ) (d buffer : List ℕ) → CommandNumber op (options_in options) d (made op options d buffer).status
unfolding judgement
make-command op options d buffer =
    command-number op (options_in options) d (make_front (options_in options) d (length buffer)) [] (omega arith) (made-number op options d buffer)

pub read-promised : (p : List ℕ) → ((k : ℕ) → get_or p k 0 < 256) → {a : Answer} → a ≡ reading p → PacketRead p a
read-promised p bytes e =
    rw e
    (record {
      outcome = refl;
      plain = read_plain p (read-command p) (read-located p bytes);
      exactly = exactly p bytes;
      again = λ n buffer room. made_again p buffer bytes n room;
    })

pub make-promised : (op options : ℕ) (d : List ℕ) → ((k : ℕ) → get_or d k 0 < 256) → (buffer : List ℕ) {m : Made} → m ≡ made op options d buffer
    → PacketMade op options d buffer m
make-promised op options d bytes buffer e =
    rw e
    (record {
      outcome = refl;
      plain = make-plain op options d buffer (make-command op options d buffer) (make-located op options d bytes buffer);
      reads-back = reads-as-made op options d buffer;
      refusal = refuses-as-read op options d buffer;
    })
