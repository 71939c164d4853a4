use Rattle.std.proofs.Common.{◌≡◌, ◌<◌, ℕ, List, [], ◌∷◌, None, length, map, sym, ap, subst, ◌∙◌, arith}
use Rattle.std.proofs.lemmas.List.{length-map}
use Rattle.avs_model.specs.declared.answer.Refusal.{Refusal}
use Rattle.avs_chunk.specs.Making.{Makes, MakeRefused}
use Rattle.avs_ii.specs.Held.{HeldSet, IiDisks}
use Rattle.avs_ii.specs.Opened.{sets_of}
use Rattle.avs_ii.specs.Kept.{IsKept}
use Rattle.avs_ii.specs.Calls.{Enables, EnableRefused, IsFree, limit_at, blocks_at}
use Rattle.avs_ii.proofs.Making.{the_group}
use Rattle.avs_ii.proofs.TakenApart.{enables, kept_with, make_refused, blocks_seen}
use Rattle.avs_ii.proofs.group.IiGroup.enable.Goals as goal

pub invariant_of-self : goal.invariant_of-self
invariant_of-self g c =
    let i = c.self.inside in
    let seen = g.D.Disk.seen in
    let V = map seen i.volumes.items in
    let none : sets_of i.set ≡ [] = ap (λ (d : IiDisks). d.sets) c.self.view_is ∙ c.in-Ok.ensures.none in
    let base : c.args.self.now ≡ the_group (seen i.state) i.block V [] = sym c.self.view_is ∙ ap (λ (l : List HeldSet). the_group (seen i.state) i.block V l) none in
    let there : c.args.master < length i.volumes.items = omega (arith, subst (λ (d : IiDisks). c.args.master < length d.volumes) base c.requires.master, length-map i.volumes.items seen) in
    let blocks : c.blocks-blocks.result ≡ blocks_at (the_group (seen i.state) i.block V []) c.args.master = c.blocks-blocks.ensures ∙ sym (blocks_seen seen (seen i.state) i.block i.volumes.items [] c.args.master c.index.result.now there c.index.ensures) in
    let makes = subst (λ (n : ℕ). Makes c.args.kind (seen c.args.shadow) (seen c.args.bitmap) n c.in-Ok-make.chunks) blocks c.in-Ok-make.ensures.made in
    let free = subst (λ (d : IiDisks). IsFree d c.in-Ok.slot) base c.in-Ok.ensures.free in
    let least = subst (λ (d : IiDisks). (other : ℕ) → other < c.in-Ok.slot → IsFree d other → ⊥) base c.in-Ok.ensures.least in
    let within = subst (λ (d : IiDisks). limit_at d c.args.kind ≡ None) base c.in-Ok.ensures.within in (
      kept_with (seen i.state) i.block V c.args.kind c.args.master c.in-Ok.slot (seen c.args.shadow) (seen c.args.bitmap) c.in-Ok-make.chunks free least within makes (subst (λ (d : IiDisks). 0 < blocks_at d c.args.master) base c.requires.some) (omega (arith, there, length-map i.volumes.items seen))
          (subst (λ (l : List HeldSet). IsKept (seen i.state) i.block V l) none c.self.invariant.0),
      record { empty = c.in-Ok-with_capacity.ensures.len; place = omega (arith, c.in-Ok-with_capacity.ensures.exact); none = c.self.invariant.1.none },
    )

pub returns-in-Ok-make-clause-enables : goal.returns-in-Ok-make-clause-enables
returns-in-Ok-make-clause-enables g c =
    let i = c.self.inside in
    let seen = g.D.Disk.seen in
    let V = map seen i.volumes.items in
    let none : sets_of i.set ≡ [] = ap (λ (d : IiDisks). d.sets) c.self.view_is ∙ c.in-Ok.ensures.none in
    let base : c.args.self.now ≡ the_group (seen i.state) i.block V [] = sym c.self.view_is ∙ ap (λ (l : List HeldSet). the_group (seen i.state) i.block V l) none in
    let there : c.args.master < length i.volumes.items = omega (arith, subst (λ (d : IiDisks). c.args.master < length d.volumes) base c.requires.master, length-map i.volumes.items seen) in
    let blocks : c.blocks-blocks.result ≡ blocks_at (the_group (seen i.state) i.block V []) c.args.master = c.blocks-blocks.ensures ∙ sym (blocks_seen seen (seen i.state) i.block i.volumes.items [] c.args.master c.index.result.now there c.index.ensures) in
    let makes = subst (λ (n : ℕ). Makes c.args.kind (seen c.args.shadow) (seen c.args.bitmap) n c.in-Ok-make.chunks) blocks c.in-Ok-make.ensures.made in
    let free = subst (λ (d : IiDisks). IsFree d c.in-Ok.slot) base c.in-Ok.ensures.free in
    let least = subst (λ (d : IiDisks). (other : ℕ) → other < c.in-Ok.slot → IsFree d other → ⊥) base c.in-Ok.ensures.least in
    let within = subst (λ (d : IiDisks). limit_at d c.args.kind ≡ None) base c.in-Ok.ensures.within in
    subst (λ (d : IiDisks). Enables d c.args.kind c.args.master (seen c.args.shadow) (seen c.args.bitmap) c.in-Ok.slot (the_group (seen i.state) i.block V (record { slot = c.in-Ok.slot; master = c.args.master; chunks = c.in-Ok-make.chunks } ∷ []))) (sym base)
    (enables (seen i.state) i.block V c.args.kind c.args.master c.in-Ok.slot (seen c.args.shadow) (seen c.args.bitmap) c.in-Ok-make.chunks free least within makes)

pub returns-in-Err-make-clause-refused : goal.returns-in-Err-make-clause-refused
returns-in-Err-make-clause-refused g c =
    let i = c.self.inside in
    let seen = g.D.Disk.seen in
    let V = map seen i.volumes.items in
    let none : sets_of i.set ≡ [] = ap (λ (d : IiDisks). d.sets) c.self.view_is ∙ c.in-Ok.ensures.none in
    let base : c.args.self.now ≡ the_group (seen i.state) i.block V [] = sym c.self.view_is ∙ ap (λ (l : List HeldSet). the_group (seen i.state) i.block V l) none in
    let there : c.args.master < length i.volumes.items = omega (arith, subst (λ (d : IiDisks). c.args.master < length d.volumes) base c.requires.master, length-map i.volumes.items seen) in
    let blocks : c.blocks-blocks.result ≡ blocks_at (the_group (seen i.state) i.block V []) c.args.master = c.blocks-blocks.ensures ∙ sym (blocks_seen seen (seen i.state) i.block i.volumes.items [] c.args.master c.index.result.now there c.index.ensures) in
    let within = subst (λ (d : IiDisks). limit_at d c.args.kind ≡ None) base c.in-Ok.ensures.within in
    let back = c.in-Err-make.field-0 in
    let w = subst (λ (n : ℕ). MakeRefused (seen c.args.shadow) (seen c.args.bitmap) n back.why (seen back.parts.0) (seen back.parts.1)) blocks c.in-Err-make.ensures.refused in
    subst (λ (d : IiDisks). EnableRefused d c.args.kind c.args.master (seen c.args.shadow) (seen c.args.bitmap) c.refusal_of.result (seen back.parts.0) (seen back.parts.1)) (sym base)
    (subst (λ (y : Refusal). EnableRefused (the_group (seen i.state) i.block V []) c.args.kind c.args.master (seen c.args.shadow) (seen c.args.bitmap) y (seen back.parts.0) (seen back.parts.1)) (sym c.refusal_of.ensures)
    (make_refused (the_group (seen i.state) i.block V []) c.args.kind c.args.master (seen c.args.shadow) (seen c.args.bitmap) back.why (seen back.parts.0) (seen back.parts.1) within w))

pub make-requires : goal.make-requires
make-requires g c =
    let i = c.self.inside in
    let seen = g.D.Disk.seen in
    let V = map seen i.volumes.items in
    let l = sets_of i.set in
    let there : c.args.master < length i.volumes.items = omega (arith, subst (λ (d : IiDisks). c.args.master < length d.volumes) (sym c.self.view_is) c.requires.master, length-map i.volumes.items seen) in
    let some : 0 < blocks_at (the_group (seen i.state) i.block V l) c.args.master = subst (λ (d : IiDisks). 0 < blocks_at d c.args.master) (sym c.self.view_is) c.requires.some in
    let blocks : 0 < c.blocks-blocks.result = omega (arith, some, c.blocks-blocks.ensures, blocks_seen seen (seen i.state) i.block i.volumes.items l c.args.master c.index.result.now there c.index.ensures) in
    blocks
