-- An entry that has landed: what a load finds of it, and that doing it once more changes nothing.
use Rattle.std.proofs.Common.{◌≡◌, inl, inr, ℕ, ◌+◌, Bool, true, false, ◌&&◌, ◌||◌, not, cond, eqb, [], length, Option, None, Some, ◌∙◌, sym, refl, ap, arith, eq-eqb}
use Rattle.std.specs.Option.{option_map_or}
use Rattle.std.proofs.Math.Path.{fun_ext}
use Rattle.std.proofs.lemmas.Bool.{cases_Bool, eqb-true}
use Rattle.avs_seg.specs.Image.{Image, put, IsMix}
use Rattle.avs_seg.proofs.Puts.{put_none}
use Rattle.avs_seg.proofs.Mixes.{IsMix-put, put-mix}
use Rattle.avs_code.specs.declared.land_headers.LandHeader.{LandHeader}
use Rattle.avs_model.specs.declared.entry.Entry.{Entry}
use Rattle.avs_model.specs.declared.entry.EntryKind.{EntryKind}
use Rattle.avs_model.specs.declared.entry.EntryKind.TheVariants.{Write, Copied, Mark}
use Rattle.avs_mirrors.specs.Due.{nothing_due}
use Rattle.avs_mirrors.specs.Entries.{Images, after_entry, is_mark, with_image}
use Rattle.avs_mirrors.specs.Half.{HalfState, Logging, Sets, State, Replicating, applied_to, is_receiver, is_session, left_receiver, without_place}
use Rattle.avs_sync.specs.declared.note.Note.{Note}
use Rattle.avs_land.specs.Landed.{HasLanded, Landed, entry_kind, header_for, kind_code, landed_blocks, landed_of}
use Rattle.avs_receiver.specs.Held.{ReceiverParts}
use Rattle.avs_receiver.specs.Meaning.{entry_on, found_by, is_of, is_redone, lies_on, redone, state_in}

-- ---- the entry on the volume is the one that landed

on_kind : (k : EntryKind) (set at session place : ℕ) (bytes img : Image) (e : Entry)
    → landed_of (header_for session place (record { kind = k; set = set; at = at; bytes = bytes })) img ≡ Some (record { session = session; place = place; entry = e })
    → entry_on (header_for session place (record { kind = k; set = set; at = at; bytes = bytes })) img ≡ e
on_kind Write set at session place bytes img e is = ap (λ (o : Option Landed). option_map_or (λ (l : Landed). l.entry) o e) is
on_kind Copied set at session place bytes img e is = ap (λ (o : Option Landed). option_map_or (λ (l : Landed). l.entry) o e) is
on_kind Mark set at session place bytes img e is = ap (λ (o : Option Landed). option_map_or (λ (l : Landed). l.entry) o e) is

pub entry_is : (session place : ℕ) (e : Entry) (img : Image) → HasLanded img (header_for session place e) (Some (record { session = session; place = place; entry = e })) → entry_on (header_for session place e) img ≡ e
entry_is session place e img has = on_kind e.kind e.set e.at session place e.bytes img e has.landed

-- the same header tells the same entry of another image
on_same : (b : Bool) (session place kind set at : ℕ) (a c : Image) → b ≡ false
    → cond {A = Option Landed} b None (Some (record { session = session; place = place; entry = record { kind = entry_kind kind; set = set; at = at; bytes = a } })) ≡ cond {A = Option Landed} b None (Some (record { session = session; place = place; entry = record { kind = entry_kind kind; set = set; at = at; bytes = c } }))
    → a ≡ c
on_same true session place kind set at a c off is = absurd (no off)
  where
    no : true ≡ false → ⊥
    no is = cc
on_same false session place kind set at a c off is = ap (λ (o : Option Landed). option_map_or (λ (l : Landed). l.entry.bytes) o a) is

not_zero : (k : ℕ) → not (eqb k 0) ≡ true → eqb k 0 ≡ false
not_zero k some = grind arith

pub entry_same : (l : LandHeader) (img new : Image) → not (eqb l.kind 0) ≡ true → landed_of l new ≡ landed_of l img → entry_on l new ≡ entry_on l img
entry_same l img new some same = ap (λ (bytes : Image). record { kind = entry_kind l.kind; set = l.set; at = l.at; bytes = bytes })
    (on_same (eqb l.kind 0) l.session l.place l.kind l.set l.at (landed_blocks l new) (landed_blocks l img) (not_zero l.kind some) same)

-- ---- a session in which a half receives

some_kind : (k : EntryKind) → not (eqb (kind_code k) 0) ≡ true
some_kind Write = refl
some_kind Copied = refl
some_kind Mark = refl

in_role : (b : Bool) (s : State) → is_session (cond b s Logging) ≡ true → (b ≡ true) × (is_session s ≡ true)
in_role true s on = (refl, on)
in_role false s on = absurd (no on)
  where
    no : false ≡ true → ⊥
    no is = cc

pub receives : (n : Note) → is_session (state_in n) ≡ true → is_receiver n.role ≡ true
receives n on = (in_role (is_receiver n.role) n.state on).0

pub in_session : (n : Note) → is_session (state_in n) ≡ true → is_session n.state ≡ true
in_session n on = (in_role (is_receiver n.role) n.state on).1

all_on : (a b c : Bool) → a ≡ true → b ≡ true → c ≡ true → (a && (b && c)) ≡ true
all_on a b c x y z = rw (x, y, z) refl

pub both_on : (a b : Bool) → a ≡ true → b ≡ true → (a && b) ≡ true
both_on a b x y = rw (x, y) refl

pub is_its : (n : Note) (place : ℕ) (e : Entry) → is_receiver n.role ≡ true → is_of n (header_for n.session place e) ≡ true
is_its n place e role = all_on (is_receiver n.role) (not (eqb (kind_code e.kind) 0)) (eqb n.session n.session) role (some_kind e.kind) (eq-eqb n.session n.session refl)

pub is_done_again : (n : Note) (place : ℕ) (e : Entry) → is_receiver n.role ≡ true → is_session n.state ≡ true → is_redone n (header_for n.session place e) ≡ true
is_done_again n place e role on = both_on (is_of n (header_for n.session place e)) (is_session n.state) (is_its n place e role) on

-- ---- what a load finds

pub on_true : {X : Type 0} (b : Bool) (x y : X) → b ≡ true → cond b x y ≡ x
on_true true x y on = refl
on_true false x y on = absurd (no on)
  where
    no : false ≡ true → ⊥
    no is = cc

-- an entry that has landed of the session is found done
pub found_landed : (kept : Sets) (n : Note) (place : ℕ) (e : Entry) (p : ReceiverParts) → is_receiver n.role ≡ true → is_session n.state ≡ true
    → HasLanded p.land.image (header_for n.session place e) (Some (record { session = n.session; place = place; entry = e }))
    → found_by kept n (header_for n.session place e) p ≡ left_receiver (record (applied_to (lies_on kept n (header_for n.session place e) p) e) { applied = place })
found_landed kept n place e p role on has =
    ap left_receiver (on_true (is_redone n (header_for n.session place e)) (redone (lies_on kept n (header_for n.session place e) p) (header_for n.session place e) p.land.image) (lies_on kept n (header_for n.session place e) p) (is_done_again n place e role on)
    ∙ ap (λ (d : Entry). record (applied_to (lies_on kept n (header_for n.session place e) p) d) { applied = place }) (entry_is n.session place e p.land.image has))

-- ---- entries put again

put_twice : (img : Image) (at : ℕ) (bs : Image) → put (put img at bs) at bs ≡ put img at bs
put_twice img at bs = put-mix img (put img at bs) at bs (IsMix-put img at bs)

pub entry_twice : (images : Images) (e : Entry) → after_entry (after_entry images e) e ≡ after_entry images e
unfolding after_entry
entry_twice images e = fun_ext (λ set. by (eqb set e.set) (images set))
  where
    by : (b : Bool) (img : Image) → cond b (put (cond b (put img e.at e.bytes) img) e.at e.bytes) (cond b (put img e.at e.bytes) img) ≡ cond b (put img e.at e.bytes) img
    by true img = put_twice img e.at e.bytes
    by false img = refl

-- an entry without blocks changes none
pub entry_none : (images : Images) (e : Entry) → length e.bytes ≡ 0 → after_entry images e ≡ images
unfolding after_entry
entry_none images e none = fun_ext (λ set. by (eqb set e.set) (images set))
  where
    by : (b : Bool) (img : Image) → cond b (put img e.at e.bytes) img ≡ img
    by true img = put_none img e.at e.bytes none
    by false img = refl

-- over a mix of its own range it is what it is over the old blocks
pub entry_mixed : (images : Images) (e : Entry) (image : Image) → IsMix (images e.set) e.at e.bytes image → after_entry (with_image images e.set image) e ≡ after_entry images e
unfolding after_entry
entry_mixed images e image mix = fun_ext (λ set. at set)
  where
    at : (set : ℕ) → cond (eqb set e.set) (put (cond (eqb set e.set) image (images set)) e.at e.bytes) (cond (eqb set e.set) image (images set)) ≡ cond (eqb set e.set) (put (images set) e.at e.bytes) (images set)
    at set = elim (cases_Bool (eqb set e.set)) [
      | inl same ↦ ap (λ (b : Bool). cond b (put (cond b image (images set)) e.at e.bytes) (cond b image (images set))) same
          ∙ put-mix (images e.set) image e.at e.bytes mix
          ∙ ap (λ (k : ℕ). put (images k) e.at e.bytes) (sym (eqb-true set e.set same))
          ∙ sym (ap (λ (b : Bool). cond b (put (images set) e.at e.bytes) (images set)) same)
      | inr other ↦ ap (λ (b : Bool). cond b (put (cond b image (images set)) e.at e.bytes) (cond b image (images set))) other
          ∙ sym (ap (λ (b : Bool). cond b (put (images set) e.at e.bytes) (images set)) other)
    ]

-- the put of one set is the entry
pub entry_one : (images : Images) (e : Entry) → with_image images e.set (put (images e.set) e.at e.bytes) ≡ after_entry images e
unfolding after_entry
entry_one images e = fun_ext (λ set. at set)
  where
    at : (set : ℕ) → cond (eqb set e.set) (put (images e.set) e.at e.bytes) (images set) ≡ cond (eqb set e.set) (put (images set) e.at e.bytes) (images set)
    at set = elim (cases_Bool (eqb set e.set)) [
      | inl same ↦ ap (λ (k : ℕ). cond (eqb set e.set) (put (images k) e.at e.bytes) (images set)) (sym (eqb-true set e.set same))
      | inr other ↦ ap (λ (b : Bool). cond b (put (images e.set) e.at e.bytes) (images set)) other
          ∙ sym (ap (λ (b : Bool). cond b (put (images set) e.at e.bytes) (images set)) other)
    ]

-- ---- a place applied twice

or_twice : (a c : Bool) → (a || (a || c)) ≡ (a || c)
or_twice true c = refl
or_twice false c = refl

cond_twice : {X : Type 0} (b : Bool) (x y : X) → cond b x (cond b x y) ≡ cond b x y
cond_twice true x y = refl
cond_twice false x y = refl

pub applied_twice : (y : HalfState) (e : Entry) → y.held ≡ [] → record (applied_to (applied_to y e) e) { applied = y.applied + 1 } ≡ applied_to y e
applied_twice y e none = λ i. record (applied_to y e) {
  contents = λ set. or_twice (is_mark e.kind && y.on set) (y.contents set) i;
  images = entry_twice y.images e i;
  state = cond_twice (is_mark e.kind) Replicating y.state i;
  due = cond_twice (is_mark e.kind) nothing_due y.due i;
  held = held_twice i;
}
  where
    held_twice : without_place (y.applied + 1 + 1) (without_place (y.applied + 1) y.held) ≡ without_place (y.applied + 1) y.held
    held_twice = rw none refl

-- what is done once more already
pub redone_twice : (y : HalfState) (l : LandHeader) (img : Image) → y.held ≡ [] → redone (redone y l img) l img ≡ redone y l img
redone_twice y l img none = λ i. record (redone y l img) {
  contents = λ set. or_twice (is_mark (entry_kind l.kind) && y.on set) (y.contents set) i;
  images = entry_twice y.images (entry_on l img) i;
  state = cond_twice (is_mark (entry_kind l.kind)) Replicating y.state i;
  due = cond_twice (is_mark (entry_kind l.kind)) nothing_due y.due i;
  held = held_twice i;
}
  where
    held_twice : without_place (l.place + 1) (without_place (y.applied + 1) y.held) ≡ without_place (y.applied + 1) y.held
    held_twice = rw none refl
