-- What follows of the tables of a schema.
use Rattle.std.proofs.Common.{◌≡◌, ℕ, zero, suc, ◌+◌, ◌-◌, ◌<◌, List, [], ◌∷◌, Bool, true, false, refl, sym, ◌∙◌, ap, subst, Some, Option, None, arith}
use Rattle.std.specs.Prelude.{option_map, slice_get}
use Rattle.std.proofs.lemmas.Option.{slice_get-map}
use Rattle.asn1_schema.specs.declared.tables.Length.{Length}
use Rattle.asn1_schema.specs.declared.tables.Member.{Member}
use Rattle.asn1_schema.specs.declared.tables.Node.{Node}
use Rattle.asn1_schema.specs.declared.tables.Node.TheVariants as type
use Rattle.asn1_schema.specs.declared.tables.Presence.{Presence}
use Rattle.asn1_schema.specs.declared.tables.Presence.TheVariants as presence
use Rattle.asn1_x690.specs.declared.fault.FaultKind.{FaultKind}
use Rattle.asn1_x690.specs.declared.fault.FaultKind.TheVariants.{OtherTag, Extra, Missing}
use Rattle.asn1_x690.specs.declared.tables.Identifier.{Identifier}
use Rattle.asn1_x690.specs.declared.tables.Tag.{Tag}
use Rattle.asn1_x690.specs.declared.tables.TypeTags.{TypeTags}
use Rattle.asn1_x690.specs.declared.tables.FirstTags.{FirstTags}
use Rattle.asn1_x690.specs.Der as der
use Rattle.asn1_x690.specs.TypeContents.{ByHeader, ToldContents, TypeContents, only_header, only_value, required, present}
use Rattle.asn1_x690_encode.specs.declared.context.Context.{Context}
use Rattle.asn1_schema.specs.declared.tables.Rows.{Rows}
use Rattle.asn1_x690_encode.specs.declared.sequence.Tail.{Tail}
use Rattle.asn1_x690_encode.specs.Encoding.{items_by, node_by, nodes_by, tables_of, types, headed_by, tagged_in, value_in, element_in, after_root, components_in, required_in, optional_in, told_by, alternatives_in, others_by}
use Rattle.asn1_x690_encode.specs.Kinds.{identifier_by, is_headed, is_required}

node_same : (n : Node) → node_by true n ≡ n
node_same (type.SetOf size is_extensible item) = refl
node_same n = refl

-- the nodes of a context have a node where its tables have one
node_get : (b : Bool) (nodes : List Node) (i : ℕ) (n : Node) → slice_get nodes i ≡ Some n → slice_get (nodes_by b nodes) i ≡ Some (node_by b n)
node_get false nodes i n e = slice_get-map (node_by false) nodes i ∙ ap (λ (o : Option Node). option_map (node_by false) o) e
node_get true nodes i n e = e ∙ ap (λ (m : Node). Some m) (sym (node_same n))

pub no_node : (b : Bool) (nodes : List Node) (i : ℕ) → slice_get nodes i ≡ None → slice_get (nodes_by b nodes) i ≡ None
no_node false nodes i e = slice_get-map (node_by false) nodes i ∙ ap (λ (o : Option Node). option_map (node_by false) o) e
no_node true nodes i e = e

module _ (c : Context) (node : ℕ) (n : Node) (t : TypeTags) (P : ByHeader FaultKind Identifier → Type 0) where
  pub at_node : (depth : ℕ) → 0 < depth → slice_get c.tables.nodes.now node ≡ Some n → slice_get c.tags.types.now node ≡ Some t
      → P (der.type_if (types c (depth - 1)) (tables_of c) node t.is_any t (node_by c.is_ordered n)) → P (types c depth node)
  at_node zero some e f p = absurd (omega (arith, some))
  at_node (suc d) some e f p =
      let same : suc d - 1 ≡ d = omega arith in
      let E = types c d in
      let m = node_by c.is_ordered n in
      subst (λ (x : Option Node). P (der.type_of E (tables_of c) node x (slice_get c.tags.types.now node)))
      (sym (node_get c.is_ordered c.tables.nodes.now node n e))
      (subst (λ (x : Option TypeTags). P (der.type_of E (tables_of c) node (Some m) x)) (sym f)
      (subst (λ (k : ℕ). P (der.type_if (types c k) (tables_of c) node t.is_any t m)) same p))

pub by_headed : (c : Context) (d node : ℕ) (t : TypeTags) (b : Bool) (n : Node) (P : ByHeader FaultKind Identifier → Type 0) → is_headed b n ≡ true
    → P (der.around node (der.rows_of c.tags.tags.now t.tags) (headed_by c d node b n))
    → P (der.type_if (types c d) (tables_of c) node b t (node_by c.is_ordered n))
by_headed c d node t true n P e p = p
by_headed c d node t false (type.Choice root is_extensible known) P e p = p
by_headed c d node t false (type.Open inner) P e p = p
by_headed c d node t false n P e p = absurd cc

by_items : (c : Context) (d node : ℕ) (t : TypeTags) (b : Bool) (size : Length) (is_extensible : Bool) (item : ℕ)
    (P : ByHeader FaultKind Identifier → Type 0)
    → P (der.tagged node (identifier_by true) (der.rows_of c.tags.tags.now t.tags) (der.sequence_of (types c d) (tables_of c) node b is_extensible size item))
    → P (der.type_if (types c d) (tables_of c) node false t (items_by b size is_extensible item))
by_items c d node t false size is_extensible item P p = p
by_items c d node t true size is_extensible item P p = p

pub by_tagged : (c : Context) (d node : ℕ) (t : TypeTags) (b : Bool) (n : Node) (P : ByHeader FaultKind Identifier → Type 0) → is_headed b n ≡ false
    → P (tagged_in c d node t n (der.rows_of c.tags.tags.now t.tags))
    → P (der.type_if (types c d) (tables_of c) node b t (node_by c.is_ordered n))
by_tagged c d node t true n P e p = absurd cc
by_tagged c d node t false type.Null P e p = p
by_tagged c d node t false type.Boolean P e p = p
by_tagged c d node t false (type.IntegerBetween bounds is_extensible) P e p = p
by_tagged c d node t false (type.IntegerAtLeast bound is_extensible) P e p = p
by_tagged c d node t false type.Integer P e p = p
by_tagged c d node t false (type.Enumerated last false known) P e p = p
by_tagged c d node t false (type.Enumerated last true known) P e p = p
by_tagged c d node t false (type.BitString size is_extensible has_names) P e p = p
by_tagged c d node t false (type.OctetString size is_extensible) P e p = p
by_tagged c d node t false type.ObjectIdentifier P e p = p
by_tagged c d node t false type.RelativeIdentifier P e p = p
by_tagged c d node t false type.Utf8String P e p = p
by_tagged c d node t false type.Real P e p = p
by_tagged c d node t false (type.Time kind) P e p = p
by_tagged c d node t false (type.Text size is_extensible alphabet whole) P e p = p
by_tagged c d node t false (type.Sequence root is_extensible known) P e p = p
by_tagged c d node t false (type.SequenceOf size is_extensible item) P e p = p
by_tagged c d node t false (type.SetOf size is_extensible item) P e p = by_items c d node t c.is_ordered size is_extensible item P p
by_tagged c d node t false (type.Choice root is_extensible known) P e p = absurd cc
by_tagged c d node t false (type.Open inner) P e p = absurd cc

-- more tags than one
pub tagged_more : (node : ℕ) (id : Tag → Identifier) (F : TypeContents FaultKind) (t : Tag) (rest : List Tag)
    (P : ByHeader FaultKind Identifier → Type 0) → (rest ≡ [] → ⊥)
    → P (only_header (der.constructed t) OtherTag node (only_value Extra node (der.element node (der.tagged node id rest F))))
    → P (der.tagged node id (t ∷ rest) F)
tagged_more node id F t [] P f p = absurd (f refl)
tagged_more node id F t (u ∷ tags) P f p = p

-- ---- components

module _ (c : Context) (depth node : ℕ) where
  module _ (tail : Tail) where
    abbrev component_in : Presence → Option FirstTags → ℕ → ToldContents FaultKind (told_by tail) → ToldContents FaultKind (told_by tail)
    component_in p first inner F =
        der.component_by (types c depth) (tables_of c) node p first inner (value_in c depth node p inner) F

    pub none_left : (count from : ℕ) (P : ToldContents FaultKind (told_by tail) → Type 0) → count ≡ 0
        → P (after_root c depth node tail) → P (components_in c depth node count from tail)
    none_left count from P e p = subst (λ (k : ℕ). P (components_in c depth node k from tail)) (sym e) p

    pub at_no_member : (count from : ℕ) (P : ToldContents FaultKind (told_by tail) → Type 0) → 0 < count
        → slice_get c.tables.members.now from ≡ None → P (der.no_member node) → P (components_in c depth node count from tail)
    at_no_member zero from P some e p = absurd (omega (arith, some))
    at_no_member (suc k) from P some e p =
        subst
        (λ (x : Option Member). P (der.component (types c depth) (tables_of c) node x (slice_get c.tags.members.now from)
        (components_in c depth node k (from + 1) tail))) (sym e) p

    at_member : (count from : ℕ) (m : Member) (P : ToldContents FaultKind (told_by tail) → Type 0) → 0 < count
        → slice_get c.tables.members.now from ≡ Some m
        → P (component_in m.presence (slice_get c.tags.members.now from) m.node (components_in c depth node (count - 1) (from + 1) tail))
        → P (components_in c depth node count from tail)
    at_member zero from m P some e p = absurd (omega (arith, some))
    at_member (suc k) from m P some e p =
        let same : suc k - 1 ≡ k = omega arith in
        subst
        (λ (x : Option Member). P (der.component (types c depth) (tables_of c) node x (slice_get c.tags.members.now from)
        (components_in c depth node k (from + 1) tail))) (sym e)
        (subst
        (λ (i : ℕ). P (component_in m.presence (slice_get c.tags.members.now from) m.node (components_in c depth node i (from + 1) tail))) same p)

    by_required : (p : Presence) (first : Option FirstTags) (inner : ℕ) (F : ToldContents FaultKind (told_by tail))
        (P : ToldContents FaultKind (told_by tail) → Type 0) → is_required p ≡ true
        → P (required Missing inner (present (element_in c depth inner) F)) → P (component_in p first inner F)
    by_required presence.Mandatory first inner F P e q = q
    by_required presence.Optional first inner F P e q = absurd cc
    by_required (presence.Default value) first inner F P e q = absurd cc

    by_optional : (p : Presence) (first : Option FirstTags) (inner : ℕ) (F : ToldContents FaultKind (told_by tail))
        (P : ToldContents FaultKind (told_by tail) → Type 0) → is_required p ≡ false
        → P (der.optional (types c depth) (tables_of c) node first (value_in c depth node p inner) F) → P (component_in p first inner F)
    by_optional presence.Mandatory first inner F P e q = absurd cc
    by_optional presence.Optional first inner F P e q = q
    by_optional (presence.Default value) first inner F P e q = q

    module _ (count from : ℕ) (m : Member) (P : ToldContents FaultKind (told_by tail) → Type 0) (some : 0 < count)
        (e : slice_get c.tables.members.now from ≡ Some m) where
      abbrev F : ToldContents FaultKind (told_by tail)
      F = components_in c depth node (count - 1) (from + 1) tail

      pub required_first : is_required m.presence ≡ true → P (required_in c depth node m.node (count - 1) (from + 1) tail)
          → P (components_in c depth node count from tail)
      required_first is p =
          at_member count from m P some e (by_required m.presence (slice_get c.tags.members.now from) m.node F P is p)

      pub optional_first : (first : FirstTags) → is_required m.presence ≡ false → slice_get c.tags.members.now from ≡ Some first
          → P (optional_in c depth node m.presence first m.node (count - 1) (from + 1) tail) → P (components_in c depth node count from tail)
      optional_first first is f p =
          at_member count from m P some e (by_optional m.presence (slice_get c.tags.members.now from) m.node F P is
          (subst
          (λ (x : Option FirstTags). P (der.optional (types c depth) (tables_of c) node x (value_in c depth node m.presence m.node) F)) (sym f) p))

      pub no_first : is_required m.presence ≡ false → slice_get c.tags.members.now from ≡ None → P (der.no_member node)
          → P (components_in c depth node count from tail)
      no_first is f p =
          at_member count from m P some e (by_optional m.presence (slice_get c.tags.members.now from) m.node F P is
          (subst
          (λ (x : Option FirstTags). P (der.optional (types c depth) (tables_of c) node x (value_in c depth node m.presence m.node) F)) (sym f) p))

-- ---- alternatives

pub choice_is : (c : Context) (depth node : ℕ) (b : Bool) (root known : Rows) (P : ByHeader FaultKind Identifier → Type 0)
    → P (alternatives_in c depth node 0 root.count root.from (others_by b root.count known))
    → P (der.choice_by (types c depth) (tables_of c) node b root known)
choice_is c depth node false root known P p = p
choice_is c depth node true root known P p = p
