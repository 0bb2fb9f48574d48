-- A set that meets a guide meets a wider one.
use Rattle.std.proofs.Common.{◌≡◌, inl, inr, ℕ, List, true, refl, sym, ◌∙◌, subst, Option, Some, None}
use Rattle.std.proofs.lemmas.Bool.{and_parts}
use Rattle.x12_bytes.specs.declared.delims.Delims.{Delims}
use Rattle.hl_check.specs.Hierarchy.{hl_segments}
use Rattle.guide_tree.specs.Words.{GuideTree}
use Rattle.set_check.specs.SetParts.{SetParts}
use Rattle.set_check.specs.Meets.{MeetsAlone, MeetsConvention}
use Rattle.guide_widening.specs.Nodes.{are_wider_nodes}
use Rattle.guide_widening.specs.Rules.{is_wider_convention, is_wider_hierarchy, are_wider_dependencies}
use Rattle.guide_widening.specs.Wider.{is_wider}
use Rattle.widening_law.specs.Law.{WiderGuidesTakeMore}
use Rattle.widening_law.proofs.Dependencies.{dependencies_free}
use Rattle.widening_law.proofs.Given.{same_body, elements_free}
use Rattle.widening_law.proofs.Hierarchies.{hierarchy_free}
use Rattle.widening_law.proofs.Listed.{same_texts}
use Rattle.widening_law.proofs.Nodes.{nodes_wider}

pub record IsWiderGuide (old new : GuideTree) : Type 0 where
  pub convention : is_wider_convention old.head.convention new.head.convention ≡ true
  pub hierarchy : is_wider_hierarchy old.hl new.hl ≡ true
  pub dependencies : are_wider_dependencies old.depends new.depends ≡ true
  pub nodes : are_wider_nodes old.nodes new.nodes ≡ true

pub guide_parts : (old new : GuideTree) → is_wider old new ≡ true → IsWiderGuide old new
guide_parts old new h =
    let a = and_parts _ _ h in
    let b = and_parts _ _ a.0 in
    let c = and_parts _ _ b.0 in
    let d = and_parts _ _ c.0 in
    let e = and_parts _ _ d.0 in
    record { convention = e.1; hierarchy = c.1; dependencies = b.1; nodes = a.1 }

convention_free : (old new : Option (List ℕ)) (delims : Delims) (given : List ℕ) → is_wider_convention old new ≡ true
    → MeetsConvention delims old given → MeetsConvention delims new given
convention_free old None delims given h m = tt
convention_free None (Some new) delims given h m = cc
convention_free (Some old) (Some new) delims given h (inl empty) = inl empty
convention_free (Some old) (Some new) delims given h (inr is) = inr (is ∙ same_texts old new h)

by_parts : (old new : GuideTree) (parts : SetParts) → IsWiderGuide old new → (m : MeetsAlone (Some old) parts) → m.known ≡ old
    → MeetsAlone (Some new) parts
by_parts old new parts w m same =
    let wide : IsWiderGuide m.known new = subst (λ (g : GuideTree). IsWiderGuide g new) (sym same) w in
    let r = nodes_wider m.known.nodes new.nodes m.slots wide.nodes m.derived in
    record {
      known = new;
      guided = refl;
      slots = r.given;
      body = same_body m.slots r.given r.wider ∙ m.body;
      derived = r.holds;
      elements = elements_free parts.delims m.slots r.given r.wider m.elements;
      hierarchy = hierarchy_free m.known.hl new.hl parts.delims (hl_segments parts.body) wide.hierarchy m.hierarchy;
      dependencies = dependencies_free m.known.depends new.depends parts.delims m.slots r.given wide.dependencies r.wider m.dependencies;
      trailer = m.trailer;
      closed = m.closed;
      counted = m.counted;
      same_control = m.same_control;
      long_control = m.long_control;
      convention = convention_free m.known.head.convention new.head.convention parts.header.delims _ wide.convention m.convention;
    }

pub wider_take_more : WiderGuidesTakeMore
wider_take_more old new parts h m =
    let same : m.known ≡ old = let e : Some old ≡ Some m.known = m.guided in cc in
    by_parts old new parts (guide_parts old new h) m same
