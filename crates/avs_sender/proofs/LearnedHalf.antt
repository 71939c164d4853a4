-- What a half keeps, and has, once it learned a place or a disk failed.
use Rattle.std.proofs.Common.{◌≡◌, ◌⊎◌, inl, inr, ℕ, ◌+◌, ◌-◌, ◌<◌, ◌≤◌, Bool, true, false, List, [], ◌∷◌, length, Result, Ok, Err, ◌∙◌, sym, refl, ap, subst, arith, length-drop}
use Rattle.std.proofs.lemmas.Bool.{cases_Bool, cases_lt}
use Rattle.avs_mqueue.specs.Queue.{Queue, Advances, next_place}
use Rattle.avs_model.specs.declared.entry.Entry.{Entry}
use Rattle.avs_model.specs.declared.entry.Limits.{Limits}
use Rattle.avs_mirrors.specs.Due.{Keys}
use Rattle.avs_mirrors.specs.Half.{Logging, is_session}
use Rattle.avs_sync.specs.Session.{left, ticked}
use Rattle.avs_sync.specs.declared.note.Note.{Note}
use Rattle.avs_sync.specs.declared.session.Session.{Session}
use Rattle.avs_halves.specs.SetBits.{SetBits}
use Rattle.avs_halves.specs.Changing.{ChangesSets}
use Rattle.avs_sender.specs.Held.{SenderHalf, SetPlaces}
use Rattle.avs_sender.specs.Kept.{IsKept, IsSessionOf}
use Rattle.avs_sender.specs.Meaning.{due_of}
use Rattle.avs_sender.specs.Freeing.{AreSizedAs, FreesEach, set_places_at}
use Rattle.avs_sender.specs.Learning.{HasLearned, LearnsInPart, half_with, known_then, learned_keys, turns}
use Rattle.avs_sender.proofs.FreedSets.{sized_same}
use Rattle.avs_sender.proofs.Learned.{due_learned, kept_learned, keys_freed, places_of, slots_of, turned_then}

-- ---- it has left, and its entries are given up

pub session_left : (n : Note) (s : Session) → IsSessionOf n s → IsSessionOf n (left s Logging)
session_left n s is = record {
  number = is.number;
  reverse = is.reverse;
  sender = is.sender;
  last = is.last;
  known = is.known;
  mark = is.mark;
  role = λ on. absurd (cc);
  acting = λ on. absurd (cc);
  idle = is.idle;
}

pub same_sized : (places : List SetPlaces) → AreSizedAs places places
same_sized places = record { count = refl; each = λ set. sized_same (set_places_at places set) (set_places_at places set) refl }

none_left : (old new : Queue) (last : ℕ) → (0 < length old.entries → next_place old ≡ last + 1) → Advances old last new → new.entries ≡ []
none_left old new last next adv = elim (cases_lt 0 (length old.entries)) [
  | inl some ↦ adv.empties (omega (arith, next some))
  | inr none ↦ empty new.entries (ap (λ (l : List Entry). length l) adv.entries ∙ length-drop (last + 1 - old.first) old.entries ∙ (let z : length old.entries - (last + 1 - old.first) ≡ 0 = omega arith in z))
]
  where
    empty : (l : List Entry) → length l ≡ 0 → l ≡ []
    empty [] none = refl
    empty (x ∷ xs) none = absurd (omega (arith, none))

-- whether it was in a session or not
pub gives_up : (h : SenderHalf) (queue : Queue) → IsKept h → Advances h.queue h.session.last queue → queue.entries ≡ []
gives_up h queue kept adv = none_left h.queue queue h.session.last (next (cases_Bool (is_session h.session.state))) adv
  where
    next : (is_session h.session.state ≡ true) ⊎ (is_session h.session.state ≡ false) → 0 < length h.queue.entries → next_place h.queue ≡ h.session.last + 1
    next (inl on) some = (kept.sends on).queue.next some
    next (inr off) some = absurd (let none : length h.queue.entries ≡ 0 = ap (λ (l : List Entry). length l) (kept.away off) in omega arith)

pub kept_stopped : {T E : Type 0} (h : SenderHalf) (keys : Keys) (on : Bool) (r : Result T E) (sets : List SetBits) (places : List SetPlaces) (queue : Queue) → IsKept h → ChangesSets keys on h.sets r sets → AreSizedAs h.places places
    → Advances h.queue h.session.last queue → IsKept (half_with h sets places (left h.session Logging) queue)
kept_stopped h keys on r sets places queue kept c sized adv = record {
  count = sized.count ∙ kept.count ∙ sym c.count;
  few = omega (arith, kept.few, c.count);
  slots = slots_of h.sets sets keys on r c kept.slots;
  places = λ set low. places_of h.sets sets h.places places h.queue.limits.writes queue.limits.writes set sized (ap (λ (s : SetBits). s.bits.segs) (c.part set).rest) (ap (λ l. l.writes) adv.limits) (kept.places set (omega (arith, low, c.count)));
  note = kept.note;
  fits = kept.fits;
  session = session_left h.note h.session kept.session;
  sends = λ in'. absurd (cc);
  away = λ off. gives_up h queue kept adv;
}

-- ---- a half that learns a place

pub stops_kept : {T E : Type 0} (h : SenderHalf) (writes : ℕ) (keys : Keys) (r : Result T E) (sets : List SetBits) (places : List SetPlaces) (session : Session) (queue : Queue) → IsKept h × (writes ≡ h.queue.limits.writes)
    → ChangesSets keys false h.sets r sets → AreSizedAs h.places places → session ≡ left h.session Logging → Advances h.queue h.session.last queue → IsKept (half_with h sets places session queue) × (writes ≡ queue.limits.writes)
stops_kept h writes keys r sets places session queue kept c sized is adv =
    (subst (λ (s : Session). IsKept (half_with h sets places s queue)) (sym is) (kept_stopped h keys false r sets places queue kept.0 c sized adv), kept.1 ∙ ap (λ (l : Limits). l.writes) (sym adv.limits))

pub learns_kept : (h : SenderHalf) (applied writes : ℕ) (sets : List SetBits) (places : List SetPlaces) (session : Session) (queue : Queue) → IsKept h × (writes ≡ h.queue.limits.writes) → is_session h.session.state ≡ true → applied ≤ h.session.last
    → ChangesSets {T = Unit {0}} {E = Unit {0}} (learned_keys h applied) false h.sets (Ok tt) sets → FreesEach h.places (known_then h.session applied) places → AreSizedAs h.places places → session ≡ ticked h.session applied → Advances h.queue (known_then h.session applied) queue
    → IsKept (half_with h sets places session queue) × (writes ≡ queue.limits.writes)
learns_kept h applied writes sets places session queue kept on given c freed sized is adv =
    (subst (λ (s : Session). IsKept (half_with h sets places s queue)) (sym is) (kept_learned h applied kept.0 on given sets places queue c freed sized adv), kept.1 ∙ ap (λ (l : Limits). l.writes) (sym adv.limits))

pub has_learned : (h : SenderHalf) (applied : ℕ) (sets : List SetBits) (places : List SetPlaces) (session : Session) (queue : Queue) (b : Bool) → IsKept h → is_session h.session.state ≡ true → applied ≤ h.session.last
    → ChangesSets {T = Unit {0}} {E = Unit {0}} (learned_keys h applied) false h.sets (Ok tt) sets → FreesEach h.places (known_then h.session applied) places → AreSizedAs h.places places → session ≡ ticked h.session applied → Advances h.queue (known_then h.session applied) queue
    → b ≡ turns h.session.state session.state → HasLearned h applied b (half_with h sets places session queue)
has_learned h applied sets places session queue b kept on given c freed sized is adv turn = record {
  rest = ap (λ (s : Session). half_with h sets places s queue) is;
  bits = c;
  queue = adv;
  turned = turned_then h (half_with h sets places session queue) applied b (kept.session.acting on) (ap (λ (s : Session). s.state) is) (turn ∙ ap (λ (s : Session). turns h.session.state s.state) is);
  due = ap (λ (s : Session). due_of (half_with h sets places s queue)) is ∙ due_learned h applied kept on given sets places queue c freed sized adv;
  number = kept.session.number;
}

pub learns_in_part : {E : Type 0} (h : SenderHalf) (applied : ℕ) (sets : List SetBits) (places : List SetPlaces) (session : Session) (queue : Queue) (e : E) → IsKept h → is_session h.session.state ≡ true
    → ChangesSets {T = Unit {0}} (learned_keys h applied) false h.sets (Err e) sets → session ≡ left h.session Logging → queue.limits ≡ h.queue.limits → LearnsInPart h applied e (half_with h sets places session queue)
learns_in_part h applied sets places session queue e kept on c is limits = record {
  rest = ap (λ (s : Session). half_with h sets places s queue) is;
  bits = c;
  limits = limits;
  keys = keys_freed h applied kept on;
  number = kept.session.number;
}
