-- A note and its bytes.
use Rattle.std.proofs.Common.{◌≡◌, ℕ, ◌+◌, ◌<◌, ◌≤◌, ◌^◌, Bool, true, false, List, [], ◌∷◌, ◌++◌, length, get_or, take, drop, refl, sym, ◌∙◌, ap, zero, suc, arith}
use Rattle.std.specs.Prelude.{nat_le, ◌==◌, ◌&&◌, None}
use Rattle.std.proofs.lemmas.Bool.Decides.{Decides-eqb}
use Rattle.std.proofs.lemmas.Nat.{from_be_bytes-to_be_bytes_2, from_be_bytes-to_be_bytes_8}
use Rattle.std.proofs.lemmas.List.{append_assoc}
use Rattle.avs_code.specs.Bytes.{zeros, all_zero, u16_bytes, u64_bytes, u16_at, u64_at}
use Rattle.avs_code.specs.Rules.{first_broken}
use Rattle.avs_code.proofs.Ruled.{AllHold, first_broken-None, first_broken-all, Decides-leb, both}
use Rattle.avs_code.proofs.Numbers.{front-u16, front-u64, front-byte, front-gap, front-zeros, all_zero-zeros, u16_at-fits, length-u16_bytes, length-u64_bytes, Begins, written}
use Rattle.avs_sync.specs.Note.{role_byte, role_of, state_byte, state_of, most_state, may_be, begun_as, reverse_byte, note_bytes, note_at, note_rules, is_rest, NoteKeeps, NoteFits, IsNote}
use Rattle.avs_model.specs.declared.half.HalfRole.{HalfRole}
use Rattle.avs_model.specs.declared.half.HalfRole.TheVariants.{Lone, Sender, Receiver}
use Rattle.avs_model.specs.declared.half.State.{State}
use Rattle.avs_model.specs.declared.half.State.TheVariants.{Logging, Syncing, Receiving, Replicating, Queuing}
use Rattle.avs_sync.specs.declared.note.Note.{Note}

-- ---- roles and states of their bytes

role_of-byte : (role : HalfRole) → role_of (role_byte role) ≡ role
role_of-byte Lone = refl
role_of-byte Sender = refl
role_of-byte Receiver = refl

state_of-byte : (role : HalfRole) (state : State) → may_be role state ≡ true → state_of role (state_byte state) ≡ state
state_of-byte Lone Logging may = refl
state_of-byte Sender Logging may = refl
state_of-byte Sender Syncing may = refl
state_of-byte Sender Replicating may = refl
state_of-byte Sender Queuing may = refl
state_of-byte Receiver Logging may = refl
state_of-byte Receiver Receiving may = refl
state_of-byte Receiver Replicating may = refl
state_of-byte Lone Syncing may = cc
state_of-byte Lone Receiving may = cc
state_of-byte Lone Replicating may = cc
state_of-byte Lone Queuing may = cc
state_of-byte Sender Receiving may = cc
state_of-byte Receiver Syncing may = cc
state_of-byte Receiver Queuing may = cc

reverse-byte : (reverse : Bool) → (reverse_byte reverse == 1) ≡ reverse
reverse-byte true = refl
reverse-byte false = refl

-- a byte within its rule, as one of the few that it can be
role_byte-of : (b : ℕ) → b ≤ 2 → role_byte (role_of b) ≡ b
role_byte-of zero low = refl
role_byte-of (suc zero) low = refl
role_byte-of (suc (suc zero)) low = refl
role_byte-of (suc (suc (suc b))) low = absurd (omega arith)

reverse_byte-of : (b : ℕ) → b ≤ 1 → reverse_byte (b == 1) ≡ b
reverse_byte-of zero low = refl
reverse_byte-of (suc zero) low = refl
reverse_byte-of (suc (suc b)) low = absurd (omega arith)

state_byte-of : (role : HalfRole) (b : ℕ) → b ≤ most_state role → (state_byte (state_of role b) ≡ b) × (may_be role (state_of role b) ≡ true)
state_byte-of Lone zero low = (refl, refl)
state_byte-of Lone (suc b) low = absurd (omega arith)
state_byte-of Sender zero low = (refl, refl)
state_byte-of Sender (suc zero) low = (refl, refl)
state_byte-of Sender (suc (suc zero)) low = (refl, refl)
state_byte-of Sender (suc (suc (suc zero))) low = (refl, refl)
state_byte-of Sender (suc (suc (suc (suc b)))) low = absurd (omega arith)
state_byte-of Receiver zero low = (refl, refl)
state_byte-of Receiver (suc zero) low = (refl, refl)
state_byte-of Receiver (suc (suc zero)) low = (refl, refl)
state_byte-of Receiver (suc (suc (suc b))) low = absurd (omega arith)

role_byte-low : (role : HalfRole) → role_byte role ≤ 2
role_byte-low Lone = omega arith
role_byte-low Sender = omega arith
role_byte-low Receiver = omega arith

reverse_byte-low : (reverse : Bool) → reverse_byte reverse ≤ 1
reverse_byte-low true = omega arith
reverse_byte-low false = omega arith

state_byte-low : (role : HalfRole) (state : State) → may_be role state ≡ true → state_byte state ≤ most_state role
state_byte-low Lone Logging may = omega arith
state_byte-low Sender Logging may = omega arith
state_byte-low Sender Syncing may = omega arith
state_byte-low Sender Replicating may = omega arith
state_byte-low Sender Queuing may = omega arith
state_byte-low Receiver Logging may = omega arith
state_byte-low Receiver Receiving may = omega arith
state_byte-low Receiver Replicating may = omega arith
state_byte-low Lone Syncing may = cc
state_byte-low Lone Receiving may = cc
state_byte-low Lone Replicating may = cc
state_byte-low Lone Queuing may = cc
state_byte-low Sender Receiving may = cc
state_byte-low Receiver Syncing may = cc
state_byte-low Receiver Queuing may = cc

-- ---- a note and its bytes

-- what is written field by field is the note
pub note_bytes-written : (x : Note) (b0 b1 b2 b3 b4 b5 : List ℕ) → b0 ≡ zeros 64 → b1 ≡ (take 0 b0 ++ u64_bytes x.session) ++ drop 8 b0 → b2 ≡ (take 8 b1 ++ role_byte x.role ∷ state_byte x.state ∷ []) ++ drop 10 b1 → b3 ≡ (take 10 b2 ++ u16_bytes x.empty) ++ drop 12 b2 → b4 ≡ (take 12 b3 ++ reverse_byte x.reverse ∷ 0 ∷ 0 ∷ 0 ∷ []) ++ drop 16 b3 → b5 ≡ (take 16 b4 ++ u64_bytes x.mark) ++ drop 24 b4 → b5 ≡ note_bytes x
unfolding note_bytes
note_bytes-written x b0 b1 b2 b3 b4 b5 e0 e1 e2 e3 e4 e5 =
    let f0 : Begins b0 [] 0 64 = record { bytes = e0; place = refl } in
    let f1 = written b1 (u64_bytes x.session) 0 8 56 f0 (length-u64_bytes _) e1 in
    let f2 = written b2 (role_byte x.role ∷ state_byte x.state ∷ []) 8 2 54 f1 refl e2 in
    let f3 = written b3 (u16_bytes x.empty) 10 2 52 f2 (length-u16_bytes _) e3 in
    let f4 = written b4 (reverse_byte x.reverse ∷ 0 ∷ 0 ∷ 0 ∷ []) 12 4 48 f3 refl e4 in
    let f5 = written b5 (u64_bytes x.mark) 16 8 40 f4 (length-u64_bytes _) e5 in
    f5.bytes

-- what lies in the bytes are the fields
note_at-note_bytes : (x : Note) → NoteKeeps x → NoteFits x → note_at (note_bytes x) ≡ x
unfolding u16_bytes u64_bytes u16_at u64_at note_bytes
note_at-note_bytes x keeps fits =
    let session : u64_at 0 (note_bytes x) ≡ x.session = from_be_bytes-to_be_bytes_8 x.session (omega (arith, keeps.session)) in
    let mark : u64_at 16 (note_bytes x) ≡ x.mark = from_be_bytes-to_be_bytes_8 x.mark (omega (arith, keeps.mark)) in
    let empty : u16_at 10 (note_bytes x) ≡ x.empty = from_be_bytes-to_be_bytes_2 x.empty fits.empty in
    rw (session, mark, empty, role_of-byte x.role, state_of-byte x.role x.state keeps.state, reverse-byte x.reverse) refl

pub note_at-is : (bytes : List ℕ) (x : Note) → IsNote bytes x → note_at bytes ≡ x
note_at-is bytes x is = ap note_at is.spelled ∙ note_at-note_bytes x is.keeps is.fits

-- where every rule holds the bytes stand for the fields that lie in them
module _ (bytes : List ℕ) (len : length bytes ≡ 64) (fit : (i : ℕ) → get_or bytes i 0 < 256) (none : first_broken (note_rules bytes) ≡ None) where
  hold : AllHold (note_rules bytes)
  hold = first_broken-None (note_rules bytes) none

  low_role : get_or bytes 8 0 ≤ 2
  low_role = (Decides-leb (get_or bytes 8 0) 2).0 hold.1.0

  low_state : get_or bytes 9 0 ≤ most_state (role_of (get_or bytes 8 0))
  low_state = (Decides-leb (get_or bytes 9 0) (most_state (role_of (get_or bytes 8 0)))).0 hold.1.1.0

  low_reverse : get_or bytes 12 0 ≤ 1
  low_reverse = (Decides-leb (get_or bytes 12 0) 1).0 hold.1.1.1.1.0

  rest : (all_zero (take 3 (drop 13 bytes)) ≡ true) × (all_zero (drop 24 bytes) ≡ true)
  rest = both (all_zero (take 3 (drop 13 bytes))) (all_zero (drop 24 bytes)) hold.1.1.1.1.1.1.0

  state : (state_byte (state_of (role_of (get_or bytes 8 0)) (get_or bytes 9 0)) ≡ get_or bytes 9 0) × (may_be (role_of (get_or bytes 8 0)) (state_of (role_of (get_or bytes 8 0)) (get_or bytes 9 0)) ≡ true)
  state = state_byte-of (role_of (get_or bytes 8 0)) (get_or bytes 9 0) low_state

  spelled : bytes ≡ note_bytes (note_at bytes)
  unfolding note_bytes zeros
  spelled =
      let f1 = front-u64 [] bytes 0 refl (omega arith) fit in
      let f2 = front-byte _ bytes 8 f1 (omega arith) in
      let f3 = front-byte _ bytes 9 f2 (omega arith) in
      let f4 = front-u16 _ bytes 10 f3 (omega arith) fit in
      let f5 = front-byte _ bytes 12 f4 (omega arith) in
      let f6 = front-gap _ bytes 13 3 f5 (omega arith) rest.0 in
      let f7 = front-u64 _ bytes 16 f6 (omega arith) fit in
      let f8 = front-zeros _ bytes 24 40 f7 rest.1 len in
      rw (role_byte-of (get_or bytes 8 0) low_role, state.0, reverse_byte-of (get_or bytes 12 0) low_reverse) (sym f8 ∙ simp append_assoc)

  pub is_note : IsNote bytes (note_at bytes)
  is_note = record {
    keeps = record {
      session = (Decides-leb (u64_at 0 bytes) (2 ^ 62)).0 hold.0;
      state = state.1;
      mark = (Decides-leb (u64_at 16 bytes) (2 ^ 62)).0 hold.1.1.1.1.1.0;
    };
    fits = record { empty = u16_at-fits bytes 10 fit };
    spelled = spelled;
  }

-- ---- and where the bytes stand for a note every rule holds

module _ (x : Note) (keeps : NoteKeeps x) (fits : NoteFits x) where
  session_holds : nat_le (u64_at 0 (note_bytes x)) (2 ^ 62) ≡ true
  unfolding u64_bytes u64_at note_bytes
  session_holds = (Decides-leb (u64_at 0 (note_bytes x)) (2 ^ 62)).1 (omega (arith, keeps.session, from_be_bytes-to_be_bytes_8 x.session (omega (arith, keeps.session))))

  mark_holds : nat_le (u64_at 16 (note_bytes x)) (2 ^ 62) ≡ true
  unfolding u64_bytes u16_bytes u64_at note_bytes
  mark_holds = (Decides-leb (u64_at 16 (note_bytes x)) (2 ^ 62)).1 (omega (arith, keeps.mark, from_be_bytes-to_be_bytes_8 x.mark (omega (arith, keeps.mark))))

  role_holds : nat_le (get_or (note_bytes x) 8 0) 2 ≡ true
  unfolding u64_bytes note_bytes
  role_holds = (Decides-leb (role_byte x.role) 2).1 (role_byte-low x.role)

  state_holds : nat_le (get_or (note_bytes x) 9 0) (most_state (role_of (get_or (note_bytes x) 8 0))) ≡ true
  unfolding u64_bytes note_bytes
  state_holds =
      rw (role_of-byte x.role) ((Decides-leb (state_byte x.state) (most_state x.role)).1 (state_byte-low x.role x.state keeps.state))

  reverse_holds : nat_le (get_or (note_bytes x) 12 0) 1 ≡ true
  unfolding u64_bytes u16_bytes note_bytes
  reverse_holds = (Decides-leb (reverse_byte x.reverse) 1).1 (reverse_byte-low x.reverse)

  rest_holds : is_rest (note_bytes x) ≡ true
  unfolding u64_bytes u16_bytes note_bytes
  rest_holds = all_zero-zeros 40

pub rules-is_note : (bytes : List ℕ) (x : Note) → IsNote bytes x → first_broken (note_rules bytes) ≡ None
rules-is_note bytes x is = rw is.spelled (first_broken-all (note_rules (note_bytes x)) (session_holds x is.keeps is.fits, (role_holds x is.keeps is.fits, (state_holds x is.keeps is.fits, (refl, (reverse_holds x is.keeps is.fits, (mark_holds x is.keeps is.fits, (rest_holds x is.keeps is.fits, tt))))))))
