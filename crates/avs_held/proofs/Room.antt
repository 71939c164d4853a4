-- The shadow's disk of a set in chunks has room for it, and a call leaves it that.
use Rattle.std.proofs.Common.{◌≡◌, ℕ, ◌≤◌, true, false, IsTrue, Option, None, Some, is_some, Result, ◌∙◌, sym, refl, ap, subst, arith}
use Rattle.avs_dev.specs.Seen.{Seen}
use Rattle.avs_model.specs.ShadowSets.{is_compact}
use Rattle.avs_chunks.specs.ChunkSet.{ChunkSet, disk_of}
use Rattle.avs_chunks.specs.Disks.{Shadow}
use Rattle.avs_chunks.specs.Copying.{CopiesDue}
use Rattle.avs_held.specs.Held.{HasRoom}

never : false ≡ true → ⊥
never e = cc

room_same : (n n' : ℕ) (o o' : Option Seen) → n' ≡ n → is_some o' ≡ is_some o → (disk_of o').size ≡ (disk_of o).size → ((d : Seen) → o ≡ Some d → n ≤ d.size) → (d : Seen) → o' ≡ Some d → n' ≤ d.size
room_same n n' None o' blocks there size room d is = absurd (never (sym there ∙ ap (λ (o : Option Seen). is_some o) is))
room_same n n' (Some e) o' blocks there size room d is =
    let here : (disk_of o').size ≡ d.size = ap (λ (o : Option Seen). (disk_of o).size) is in
    omega (arith, blocks, size, here, room e refl)

pub room_kept : (s s' : ChunkSet) → s'.kind ≡ s.kind → s'.blocks ≡ s.blocks → is_some s'.shadow ≡ is_some s.shadow → (disk_of s'.shadow).size ≡ (disk_of s.shadow).size → HasRoom s → HasRoom s'
room_kept s s' kind blocks there size room = record { kind = ap is_compact kind ∙ room.kind; disk = room_same s.blocks s'.blocks s.shadow s'.shadow blocks there size room.disk }

room_at : (n : ℕ) (o : Option Seen) → IsTrue (is_some o) → ((d : Seen) → o ≡ Some d → n ≤ d.size) → n ≤ (disk_of o).size
room_at n None is room = absurd (never is)
room_at n (Some d) is room = room d refl

pub room_there : (s : ChunkSet) → HasRoom s → IsTrue (is_some s.shadow) → s.blocks ≤ (disk_of s.shadow).size
room_there s room is = room_at s.blocks s.shadow is room.disk

-- and so does a copy step, with a chunk or without one
pub room_due : {E : Type 0} (s s' : ChunkSet) (m m' : Seen) (due : Option ℕ) (r : Result (Option ℕ) E) → CopiesDue s m due r s' m' → HasRoom s → HasRoom s'
room_due s s' m m' None r (nothing, is) room = subst (λ (x : ChunkSet). HasRoom x) (sym nothing.set) room
room_due s s' m m' (Some chunk) r (st, is) room = room_kept s s' st.keeps.shape.kind st.keeps.shape.blocks st.keeps.shape.there (st.keeps.goes.lasts Shadow).size room

-- the shadow's disk is taken out, and put in
pub room_taken : (s s' : ChunkSet) → s' ≡ record s { shadow = None } → HasRoom s → HasRoom s'
room_taken s s' is room = subst (λ (x : ChunkSet). HasRoom x) (sym is) (record { kind = room.kind; disk = λ d e. absurd (never (ap (λ (o : Option Seen). is_some o) e)) })

pub room_given : (s s' : ChunkSet) (d : Seen) → s' ≡ record s { shadow = Some d } → s.blocks ≤ d.size → HasRoom s → HasRoom s'
room_given s s' d is fits room = subst (λ (x : ChunkSet). HasRoom x) (sym is)
    (record { kind = room.kind; disk = λ e same. let size : d.size ≡ e.size = ap (λ (o : Option Seen). (disk_of o).size) same in omega (arith, size, fits) })
