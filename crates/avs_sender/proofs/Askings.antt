-- What a sender tells.
use Rattle.std.proofs.Common.{◌≡◌, ◌⊎◌, inl, inr, ℕ, ◌+◌, ◌<◌, ◌≤◌, Bool, true, false, ◌&&◌, cond, List, length, map, get_or, All, None, Some, is_some, ◌∙◌, sym, refl, ap, subst, arith}
use Rattle.std.specs.Prelude.{nat_lt, nat_le}
use Rattle.std.proofs.Math.Path.{fun_ext}
use Rattle.std.proofs.Math.ListN.{get_or-map}
use Rattle.std.proofs.lemmas.List.{length-map}
use Rattle.std.proofs.lemmas.List.Elements.{All-get_or, All-from_get_or}
use Rattle.std.proofs.lemmas.Bool.{cases_Bool}
use Rattle.std.proofs.lemmas.Bool.Decides.{nat_tests}
use Rattle.avs_dev.specs.Below.{BelowSeen}
use Rattle.avs_mirrors.specs.Due.{has}
use Rattle.avs_mirrors.specs.Half.{is_receiver}
use Rattle.avs_mqueue.specs.Queue.{Queue, IsHeld}
use Rattle.avs_sync.specs.Machine.{session_of}
use Rattle.avs_sync.specs.Parts.{MirrorSet}
use Rattle.avs_sync.specs.declared.session.Session.{Session}
use Rattle.avs_halves.specs.SetBits.{SetBits, set_at, has_bit, part_of, no_set, no_part}
use Rattle.avs_halves.specs.Loading.{HasVolume}
use Rattle.avs_sender.specs.Held.{SenderHalf, SenderParts, held}
use Rattle.avs_sender.specs.Kept.{HoldsAbove, IsSessionOf}
use Rattle.avs_sender.specs.Meaning.{due_of, freeing_place, is_given, places_at, sender_of}
use Rattle.avs_sender.specs.Loading.{IsLoadable}

-- what is due is what has a bit
has_one : (b : Bool) (k : ℕ) → is_some (cond b (Some k) None) ≡ b
has_one true k = refl
has_one false k = refl

pub has_due : (h : SenderHalf) (set : ℕ) → has (due_of h) set ≡ has_bit (set_at h.sets set)
has_due h set = fun_ext (λ seg. has_one (has_bit (set_at h.sets set) seg) (freeing_place h.session (places_at h set) seg))

-- an entry is held exactly above the known place, as far as the last
pub given_held : (s : Session) (q : Queue) (place : ℕ) → HoldsAbove s q → s.known < place → nat_le place s.last ≡ true → IsHeld q place
given_held s q place holds above given = record { low = omega (arith, first); high = omega (arith, next, last) }
  where
    last : place ≤ s.last
    last = grind (arith, nat_tests)

    some : 0 < length q.entries
    some = omega (arith, holds.count, last)

    next : q.first + length q.entries ≡ s.last + 1
    next = holds.next some

    first : q.first ≡ s.known + 1
    first = omega (arith, next, holds.count, last)

pub held_given : (s : Session) (q : Queue) (place : ℕ) → HoldsAbove s q → IsHeld q place → is_given s place ≡ true
held_given s q place holds held = by (omega (arith, held.low, held.high, next, holds.count)) (omega (arith, held.high, next))
  where
    next : q.first + length q.entries ≡ s.last + 1
    next = holds.next (omega (arith, held.low, held.high))

    by : 0 < place → place ≤ s.last → (nat_lt 0 place && nat_le place s.last) ≡ true
    by low high = grind (arith, nat_tests)

pub not_given : (s : Session) (q : Queue) (place : ℕ) → HoldsAbove s q → (place ≡ 0) ⊎ (s.known < place) → (IsHeld q place → ⊥) → is_given s place ≡ false
not_given s q place holds (inl zero) none = zero_not s.last place zero
  where
    zero_not : (last place : ℕ) → place ≡ 0 → (nat_lt 0 place && nat_le place last) ≡ false
    zero_not last place zero = grind (arith, nat_tests)
not_given s q place holds (inr above) none = elim (cases_Bool (nat_le place s.last)) [
  | inl given ↦ absurd (none (given_held s q place holds above given))
  | inr behind ↦ behind_not (nat_lt 0 place) (nat_le place s.last) behind
]
  where
    behind_not : (a b : Bool) → b ≡ false → (a && b) ≡ false
    behind_not a b off = grind arith

-- ---- volumes

pub vols_there : (n : ℕ) (sets : List SetBits) → All (λ s. s.vol < n) sets → (i : ℕ) → i < length (map (λ s. s.vol) sets) → get_or (map (λ s. s.vol) sets) i 0 < n
vols_there n sets all i low =
    subst (λ (v : ℕ). v < n) (sym (get_or-map (λ s. s.vol) sets i no_set)) (All-get_or (λ s. s.vol < n) sets i no_set (omega (arith, low, length-map sets (λ s. s.vol))) all)

pub sets_there : (sizes : List ℕ) (parts : List MirrorSet) (sets : List SetBits) → map part_of sets ≡ parts → All (HasVolume sizes) parts → All (λ s. s.vol < length sizes) sets
sets_there sizes parts sets same all = All-from_get_or (λ s. s.vol < length sizes) sets no_set (λ i low.
    subst (λ (m : MirrorSet). m.vol < length sizes) (ap (λ (l : List MirrorSet). get_or l i no_part) (sym same) ∙ get_or-map part_of sets i no_set)
    (All-get_or (HasVolume sizes) parts i no_part (omega (arith, low, ap (λ (l : List MirrorSet). length l) same, length-map sets part_of)) all))

pub parts_there : (p : SenderParts) → IsLoadable p → All (HasVolume p.below.sizes) p.sets
parts_there p loadable = All-from_get_or (HasVolume p.below.sizes) p.sets no_part (λ i low. (loadable.own i low).there)

-- ---- the session

last_is : (b : Bool) (last : ℕ) → (b ≡ true → last ≡ 0) → last ≡ cond b 0 last
last_is true last zero = zero refl
last_is false last zero = refl

-- the session in memory is that of the half
pub session_is : (below : BelowSeen) (h : SenderHalf) → IsSessionOf h.note h.session → h.session ≡ session_of (sender_of (held below h)) h.session.reverse h.session.mark
session_is below h is = λ i. record h.session { sender = is.sender i; last = last_is (is_receiver h.note.role) h.session.last is.idle i }
