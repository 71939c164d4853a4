-- The stages of a move, on the hosts that they are on, make of the mirrors of both what the move makes of the two halves.
use Rattle.std.proofs.Common.{◌≡◌, ℕ, suc, Bool, true, false, ◌&&◌, nat_eq, cond, List, [], ◌∷◌, map, drop, Option, None, Some, ◌∙◌, refl, sym, ap, subst}
use Rattle.std.proofs.lemmas.Option.{same_Some}
use Rattle.avs_seg.specs.Staged.{run}
use Rattle.avs_model.specs.Hosts.{HostStage, Name}
use Rattle.avs_model.specs.BothHosts.{other_of}
use Rattle.avs_model.specs.declared.event.Host.{Host}
use Rattle.avs_model.specs.declared.event.Host.TheVariants.{P, S}
use Rattle.avs_mirrors.specs.Allowed.{IsAmong}
use Rattle.avs_mirrors.specs.Half.{HalfState, Logging, Message, State, is_sender, is_sending, is_session}
use Rattle.avs_mirrors.specs.Pair.{PairState, Session}
use Rattle.avs_mirrors.specs.HalfStages.{after_mirror_stage, with_own}
use Rattle.avs_mirrors.specs.MirrorHosts.{MirrorHalf, MirrorHost, MirrorStage, NamedMessage, OfHost, Seat, Sent, half_at, with_seat}
use Rattle.avs_mirrors.specs.MirrorStates.{AtHost, MirrorState, Workers, after_pair_stage, in_pair, mirror_host, with_worker, without_workers}
use Rattle.avs_mirrors.specs.PairOf.{HasSent, IsHalfOf, IsPairOf, IsSentOf, View, named_entry, named_message, sender_host}
use Rattle.avs_pair.proofs.Named.{half_there, name_self}

-- ---- one host is another, and the other host and the workers are as they were

pub record Moved (state : MirrorState) (at : Host) (new : MirrorHost) (workers : Workers) (state' : MirrorState) : Type 0 where
  pub this : mirror_host state' at ≡ new
  pub that : mirror_host state' (other_of at) ≡ mirror_host state (other_of at)
  pub workers' : state'.workers ≡ workers

pub moved_none : (state : MirrorState) (at : Host) → Moved state at (mirror_host state at) state.workers state
moved_none state at = record { this = refl; that = refl; workers' = refl }

pub moved_one : (state : MirrorState) (at : Host) (stage : MirrorStage) → Moved state at (after_mirror_stage (mirror_host state at) stage) state.workers (after_pair_stage state (AtHost at stage))
moved_one state P stage = record { this = refl; that = refl; workers' = refl }
moved_one state S stage = record { this = refl; that = refl; workers' = refl }

pub moved_more : (state : MirrorState) (at : Host) (new : MirrorHost) (workers : Workers) (state' : MirrorState) (stage : MirrorStage) → Moved state at new workers state' → Moved state at (after_mirror_stage new stage) workers (after_pair_stage state' (AtHost at stage))
moved_more state P new workers state' stage m = record { this = ap (λ (host : MirrorHost). after_mirror_stage host stage) m.this; that = m.that; workers' = m.workers' }
moved_more state S new workers state' stage m = record { this = ap (λ (host : MirrorHost). after_mirror_stage host stage) m.this; that = m.that; workers' = m.workers' }

-- and the workers are others
pub moved_workers : (state : MirrorState) (at : Host) (new : MirrorHost) (workers : Workers) (state' : MirrorState) (change : Workers → Workers) → Moved state at new workers state' → Moved state at new (change workers) (record state' { workers = change state'.workers })
moved_workers state P new workers state' change m = record { this = m.this; that = m.that; workers' = ap change m.workers' }
moved_workers state S new workers state' change m = record { this = m.this; that = m.that; workers' = ap change m.workers' }

-- stages of the host alone
pub moved_own : (state : MirrorState) (at : Host) (own : List HostStage) (new : MirrorHost) (workers : Workers) (state' : MirrorState) → Moved state at new workers state' → Moved state at (with_own new own) workers (run in_pair state' (map (λ (one : HostStage). AtHost at (OfHost one)) own))
moved_own state at [] new workers state' m = m
moved_own state at (one ∷ own) new workers state' m =
    moved_own state at own (after_mirror_stage new (OfHost one)) workers (after_pair_stage state' (AtHost at (OfHost one))) (moved_more state at new workers state' (OfHost one) m)

-- ---- the source's host, and the target's

pub source_moved : (view : View) (state state' : MirrorState) (new : MirrorHost) (workers : Workers) (p : PairState) (x : HalfState) (s : Session) (ms : List Message) → IsPairOf view state p → Moved state view.sender new workers state'
    → IsHalfOf view.names view.group new x → (is_sending x ≡ true → IsSentOf view.names (half_at new view.group).sent x s) → HasSent view.names (workers view.group) ms
    → IsPairOf view state' (record { source = x; target = p.target; session = s; messages = ms })
source_moved view state state' new workers p x s ms is m half sent has = record {
  apart = is.apart;
  source = subst (λ (host : MirrorHost). IsHalfOf view.names view.group host x) (sym m.this) half;
  target = subst (λ (host : MirrorHost). IsHalfOf view.names view.group host p.target) (sym m.that) is.target;
  sent = λ on. subst (λ (host : MirrorHost). IsSentOf view.names (half_at host view.group).sent x s) (sym m.this) (sent on);
  workers = subst (λ (w : Workers). HasSent view.names (w view.group) ms) (sym m.workers') has;
}

pub other_twice : (host : Host) → other_of (other_of host) ≡ host
other_twice P = refl
other_twice S = refl

that_sender : (state state' : MirrorState) (new : MirrorHost) (workers : Workers) (sender : Host) → Moved state (other_of sender) new workers state' → mirror_host state' sender ≡ mirror_host state sender
that_sender state state' new workers P m = m.that
that_sender state state' new workers S m = m.that

pub target_moved : (view : View) (state state' : MirrorState) (new : MirrorHost) (workers : Workers) (p : PairState) (y : HalfState) (s : Session) (ms : List Message) → IsPairOf view state p → Moved state (other_of view.sender) new workers state'
    → IsHalfOf view.names view.group new y → (is_sending p.source ≡ true → IsSentOf view.names (half_at (sender_host view state) view.group).sent p.source s) → HasSent view.names (workers view.group) ms
    → IsPairOf view state' (record { source = p.source; target = y; session = s; messages = ms })
target_moved view state state' new workers p y s ms is m half sent has =
    let same : mirror_host state' view.sender ≡ mirror_host state view.sender = that_sender state state' new workers view.sender m in
    record {
      apart = is.apart;
      source = subst (λ (host : MirrorHost). IsHalfOf view.names view.group host p.source) (sym same) is.source;
      target = subst (λ (host : MirrorHost). IsHalfOf view.names view.group host y) (sym m.this) half;
      sent = λ on. subst (λ (host : MirrorHost). IsSentOf view.names (half_at host view.group).sent p.source s) (sym same) (sent on);
      workers = subst (λ (w : Workers). HasSent view.names (w view.group) ms) (sym m.workers') has;
    }

-- ---- what a sender has sent

pub sent_there : (host : MirrorHost) (group : Name) (seat : Seat) (sent : Sent) → (half_at (with_seat host group seat sent) group).sent ≡ sent
sent_there host group seat sent = ap (λ (half : MirrorHalf). half.sent) (half_there host group seat sent)

-- the same, of a half that knows the same place
pub sent_same : (names : ℕ → Name) (old new : Sent) (x k : HalfState) (s : Session) → new ≡ old → k.known ≡ x.known → IsSentOf names old x s → IsSentOf names new k s
sent_same names old new x k s is same o = record {
  mark = ap (λ (sent : Sent). sent.mark) is ∙ o.mark;
  most = ap (λ (sent : Sent). sent.most) is ∙ o.most;
  entries = ap (λ (sent : Sent). sent.entries) is ∙ o.entries ∙ sym (ap (λ (n : ℕ). map (named_entry names) (drop n s.order)) same);
}

-- a half in logging sends nothing
pub away_sends : (h : HalfState) → h.state ≡ Logging → is_sending h ≡ false
away_sends h away = ap (λ (state : State). is_sender h.role && is_session state) away ∙ none (is_sender h.role)
  where
    none : (b : Bool) → (b && false) ≡ false
    none true = refl
    none false = refl

-- ---- what workers hold

-- there are more messages
pub has_more : (names : ℕ → Name) (workers : ℕ → Option NamedMessage) (m : Message) (ms : List Message) → HasSent names workers ms → HasSent names workers (m ∷ ms)
has_more names workers m ms has = record {
  each = λ worker one holds. let h = has.each worker one holds in (h.0, record { at = suc h.1.at; there = h.1.there }, h.2);
}

-- a worker holds the newest one
pub has_new : (names : ℕ → Name) (workers : Workers) (group : Name) (worker : ℕ) (m : Message) (ms : List Message) → HasSent names (workers group) ms → HasSent names (with_worker workers group worker (Some (named_message names m)) group) (m ∷ ms)
has_new names workers group worker m ms has = record { each = λ w one holds. by w one (nat_eq w worker) refl (sym (ap (λ (b : Bool). cond (b && nat_eq w worker) (Some (named_message names m)) (workers group w)) (name_self group)) ∙ holds) }
  where
    by : (w : ℕ) (one : NamedMessage) (b : Bool) → nat_eq w worker ≡ b → cond b (Some (named_message names m)) (workers group w) ≡ Some one → (sent : Message) × IsAmong sent (m ∷ ms) × (one ≡ named_message names sent)
    by w one true at holds = (m, record { at = 0; there = refl }, sym (same_Some (named_message names m) one holds))
    by w one false at holds = (has_more names (workers group) m ms has).each w one holds

-- none holds any
pub has_none : (names : ℕ → Name) (workers : Workers) (group : Name) (ms : List Message) → HasSent names (without_workers workers group group) ms
has_none names workers group ms = record { each = λ w one holds. absurd (none w one (sym (ap (λ (b : Bool). cond b None (workers group w)) (name_self group)) ∙ holds)) }
  where
    none : (w : ℕ) (one : NamedMessage) → None ≡ Some one → ⊥
    none w one is = absurd (cc)
