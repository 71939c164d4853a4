-- Of two hosts whose mirrors are reached halves every segment that differs is due.
use Rattle.std.proofs.Common.{◌≡◌, ◌⊎◌, inl, inr, ℕ, Bool, true, false, ◌&&◌, Option, is_some, ◌∙◌, sym, ap, subst}
use Rattle.std.specs.List.{Contains}
use Rattle.std.specs.Option.{option_map_or}
use Rattle.std.specs.Str.{bytes_eq}
use Rattle.std.proofs.lemmas.Option.{same_Some}
use Rattle.avs_seg.specs.Image.{Image}
use Rattle.avs_seg.specs.Segment.{differ}
use Rattle.avs_model.specs.Hosts.{Name}
use Rattle.avs_model.specs.HostPlaces.{image_of}
use Rattle.avs_mirrors.specs.Half.{HalfState}
use Rattle.avs_mirrors.specs.MirrorHosts.{MirrorHost, PairSet}
use Rattle.avs_mirrors.specs.MirrorStates.{MirrorState}
use Rattle.avs_mirrors.specs.Pair.{PairState}
use Rattle.avs_mirrors.specs.PairOf.{IsHalfOf, IsReachedOf, IsOneSet, View, other_host, sender_host}
use Rattle.avs_pair.specs.HostCover.{CoversOn, HasSet}
use Rattle.avs_pair.proofs.Always.{reached_sound}
use Rattle.avs_pair.proofs.Laws.{sound_covers}
use Rattle.avs_pair.proofs.Sound.{Sound}

-- a set of the group on a host is one of the half
record IsOne (names : ℕ → Name) (host : MirrorHost) (h : HalfState) (key : ℕ) (set : PairSet) : Type 0 where
  on : h.on key ≡ true
  image : h.images key ≡ image_of host.own set.volume
  due : (seg : ℕ) → is_some (h.due key seg) ≡ is_some (set.due seg)

is_one : (names : ℕ → Name) (group : Name) (host : MirrorHost) (h : HalfState) (key : ℕ) (set : PairSet) → ((t : ℕ) → h.here t ≡ true → h.on t ≡ true) → IsHalfOf names group host h → HasSet host group (names key) set → IsOne names host h key set
is_one names group host h key set within is has =
    let here : h.here key ≡ true = is.here key ∙ ap (λ (o : Option PairSet). option_map_or (λ (s : PairSet). bytes_eq group s.group) o false) has.found ∙ has.here in
    let o : IsOneSet names host h key = is.sets key (within key here) in
    let same : o.set ≡ set = same_Some o.set set (sym o.found ∙ has.found) in
    record {
      on = within key here;
      image = o.image ∙ ap (λ (s : PairSet). image_of host.own s.volume) same;
      due = λ seg. ap is_some (o.due seg) ∙ ap (λ (s : PairSet). is_some (s.due seg)) same;
    }

pub hosts_covered : (view : View) (state : MirrorState) (p : PairState) → IsReachedOf view state p → CoversOn view.group (sender_host view state) (other_host view state)
hosts_covered view state p is = record {
  each = λ name a b here there seg differs.
      let key : ℕ = (is.is.apart.all name).0 in
      let same : name ≡ view.names key = sym ((is.is.apart.all name).1) in
      let one : HasSet (sender_host view state) view.group (view.names key) a = subst (λ (n : Name). HasSet (sender_host view state) view.group n a) same here in
      let other : HasSet (other_host view state) view.group (view.names key) b = subst (λ (n : Name). HasSet (other_host view state) view.group n b) same there in
      by key a b (is_one view.names view.group (sender_host view state) p.source key a sound.source_here.within is.is.source one) (is_one view.names view.group (other_host view state) p.target key b sound.target_here.within is.is.target other) seg differs;
}
  where
    sound : Sound p
    sound = reached_sound p is.reached

    both : (a b : Bool) → a ≡ true → b ≡ true → (a && b) ≡ true
    both a b left right = ap (λ (c : Bool). c && b) left ∙ right

    by : (key : ℕ) (a b : PairSet) → IsOne view.names (sender_host view state) p.source key a → IsOne view.names (other_host view state) p.target key b → (seg : ℕ)
        → Contains (differ (image_of (sender_host view state).own a.volume) (image_of (other_host view state).own b.volume)) seg → (is_some (a.due seg) ≡ true) ⊎ (is_some (b.due seg) ≡ true)
    by key a b one other seg differs = elim ((sound_covers p sound).each key seg (both (p.source.on key) (p.target.on key) one.on other.on)
        (subst (λ (i : Image). Contains (differ i (p.target.images key)) seg) (sym one.image) (subst (λ (i : Image). Contains (differ (image_of (sender_host view state).own a.volume) i) seg) (sym other.image) differs))) [
          | inl source ↦ inl (sym (one.due seg) ∙ source)
          | inr target ↦ inr (sym (other.due seg) ∙ target)
        ]
