-- What a draft keeps through each of its changes.
use Rattle.std.proofs.Common.{◌≡◌, ◌≢◌, ℕ, zero, suc, ◌+◌, ◌<◌, ◌≤◌, Bool, true, false, List, [], ◌∷◌, length, refl}
use Rattle.std.proofs.Common.{sym, ap, ◌∙◌, arith, Option, Some, None, IsTrue, inl}
use Rattle.std.specs.List.{AllPairs, list_any, position}
use Rattle.std.proofs.lemmas.List.{length-append}
use Rattle.std.proofs.lemmas.List.Elements.{All-cons}
use Rattle.cust_data.specs.Layers.{Layer, same_name, is_layer_name, is_width}
use Rattle.mesh_model.specs.Table.{at, IsThere, passes}
use Rattle.mesh_model.specs.NameSet.{is_in}
use Rattle.mesh_model.specs.Complex.{Complex, uv_layer, material_layer, smooth_layer, width}
use Rattle.mesh_model.specs.Incidence.{uses_edge, edge_joining}
use Rattle.mesh_model.specs.Making.{with_vert, edge_from_to, vert_at_point, with_found, edge_between}
use Rattle.mesh_model.specs.Valid.{is_on_grid, IsVertLinked, IsEdgeLinked, IsLinked, IsValid, IsSimple}
use Rattle.cust_data.specs.Layers.{AreLayers}
use Rattle.mesh_model.specs.LayerRows.{due_layers}
use Rattle.mesh_model.specs.EdgeIndexes.{Knows}
use Rattle.mesh_model.specs.declared.layer_rows.Due.{Due}
use Rattle.mesh_model.specs.declared.layer_rows.Due.TheVariants.{Nothing, CornerLayers, FaceLayers}
use Rattle.mesh_model.specs.Draft.{due_model, IsDraft, with_found_name, with_name, found_in, edge_in}
use Rattle.mesh_model.specs.declared.limits.TheConstants.{MAX_VERTS, MAX_EDGES}
use Rattle.mesh_model.specs.declared.names.Kind.TheVariants.{Verts, Edges}
use Rattle.mesh_model.specs.declared.names.VertName.{VertName}
use Rattle.mesh_model.specs.declared.names.EdgeName.{EdgeName}
use Rattle.mesh_model.specs.declared.records.Point.{Point}
use Rattle.mesh_model.specs.declared.records.CornerRec.{CornerRec}
use Rattle.mesh_model.specs.declared.edge_index.EdgeIndex.{EdgeIndex}
use Rattle.mesh_model.proofs.Grown.{IsGrown, AreNewLinked, IsLinked-grown, IsValid-grown}
use Rattle.mesh_model.proofs.Zeros.{length-zeros, in_range-zeros}
use Rattle.mesh_model.proofs.Makings.{IsLinked-with_vert, IsValid-with_vert, IsLinked-with_edge, IsValid-with_edge}
use Rattle.mesh_model.proofs.Makings.{IsSimple-with_edge, JoinsNone-edge_joining}

-- ---- A NEW DRAFT

no_layers_are : AreLayers []
no_layers_are = record {
  few = omega arith;
  named = λ k d less. absurd (omega arith);
  distinct =
      λ i j d below less. absurd (omega arith);
  widths = λ k d less. absurd (omega arith);
}

one_layer : (l : Layer) → IsTrue (is_layer_name l.name) → IsTrue (is_width l.width) → AreLayers (l ∷ [])
one_layer l named width =
    record {
      few = omega arith;
      named =
          All-cons (λ (m : Layer). IsTrue (is_layer_name m.name)) l [] named (λ k d less. absurd (omega arith));
      distinct =
          λ i j d below less. absurd (omega arith);
      widths =
          All-cons (λ (m : Layer). IsTrue (is_width m.width)) l [] width (λ k d less. absurd (omega arith));
    }

apart_two : (l m : Layer) → same_name l.name m.name ≡ false
    → AllPairs (λ (x y : Layer). same_name x.name y.name ≡ false) (l ∷ m ∷ [])
apart_two l m apart zero zero d below less = absurd (omega arith)
apart_two l m apart zero (suc zero) d below less = apart
apart_two l m apart zero (suc (suc j)) d below less = absurd (omega arith)
apart_two l m apart (suc i) zero d below less = absurd (omega arith)
apart_two l m apart (suc i) (suc j) d below less = absurd (omega arith)

two_layers : (l m : Layer) → IsTrue (is_layer_name l.name) → IsTrue (is_width l.width) → IsTrue (is_layer_name m.name)
    → IsTrue (is_width m.width) → same_name l.name m.name ≡ false → AreLayers (l ∷ m ∷ [])
two_layers l m named width named' width' apart = record {
  few = omega arith;
  named = All-cons (λ (x : Layer). IsTrue (is_layer_name x.name)) l (m ∷ []) named
      (All-cons (λ (x : Layer). IsTrue (is_layer_name x.name)) m [] named' (λ k d less. absurd (omega arith)));
  distinct = apart_two l m apart;
  widths = All-cons (λ (x : Layer). IsTrue (is_width x.width)) l (m ∷ []) width
      (All-cons (λ (x : Layer). IsTrue (is_width x.width)) m [] width' (λ k d less. absurd (omega arith)));
}

nothing_at : {X : Type 0} (n : ℕ) (x : X) → at [] n ≡ Some x → ⊥
nothing_at n x h = cc

layers_due : (due : Due) → AreLayers (due_layers due)
layers_due Nothing = no_layers_are
layers_due CornerLayers = one_layer uv_layer refl refl
layers_due FaceLayers = two_layers material_layer smooth_layer refl refl refl refl refl

pub IsLinked-due : (corners faces : Due) → IsLinked (due_model corners faces)
IsLinked-due corners faces = record {
  layers = record {
    verts = no_layers_are;
    edges = no_layers_are;
    corners = layers_due corners;
    faces =
        layers_due faces;
  };
  verts = λ n x h. absurd (nothing_at n x h);
  edges = λ n x h. absurd (nothing_at n x h);
  faces = λ n x h. absurd (nothing_at n x h);
}

pub IsValid-due : (corners faces : Due) → IsValid (due_model corners faces)
IsValid-due corners faces = record {
  linked = IsLinked-due corners faces;
  verts = λ n x h. absurd (nothing_at n x h);
  edges = λ n x h. absurd (nothing_at n x h);
  faces = λ n x h. absurd (nothing_at n x h);
  limits = record { verts = omega arith; edges = omega arith; faces = omega arith; corners = omega arith };
}

-- ---- A VERTEX MORE

vert_linked : (c : Complex) (p : Point) → IsVertLinked c (vert_at_point c p)
vert_linked c p = record { vals = length-zeros (width c Verts) }

pub IsDraft-with_vert : (c : Complex) (flags : List Bool) (corners : List CornerRec) (index : EdgeIndex) (p : Point)
    → IsDraft c flags corners index → IsDraft (with_vert c (vert_at_point c p)) flags corners index
IsDraft-with_vert c flags corners index p h =
    record {
      linked = IsLinked-with_vert c (vert_at_point c p) (vert_linked c p) h.linked;
      used = h.used;
      closed =
          h.closed;
      knows = h.knows;
    }

pub IsValid-vert : (c : Complex) (p : Point) → length c.verts < MAX_VERTS → is_on_grid p ≡ true → IsValid c
    → IsValid (with_vert c (vert_at_point c p))
IsValid-vert c p few on h =
    IsValid-with_vert c (vert_at_point c p) few (vert_linked c p) (record {
      point = on;
      vals =
          in_range-zeros (width c Verts);
    }) h

-- ---- AN EDGE BETWEEN TWO VERTICES

edge_linked : (c : Complex) (v w : VertName) → IsThere c.verts v.0 → IsThere c.verts w.0 → v.0 ≢ w.0
    → IsEdgeLinked c (edge_from_to c v w)
edge_linked c v w a b differ = record { a = a; b = b; differ = differ; vals = length-zeros (width c Edges) }

IsLinked-found : (c : Complex) (v w : VertName) (found : Option EdgeName) → IsThere c.verts v.0 → IsThere c.verts w.0
    → v.0 ≢ w.0 → IsLinked c → IsLinked (with_found c v w found).0
IsLinked-found c v w None a b differ h = IsLinked-with_edge c (edge_from_to c v w) (edge_linked c v w a b differ) h
IsLinked-found c v w (Some e) a b differ h = h

pub IsLinked-edge_between : (c : Complex) (v w : VertName) → IsThere c.verts v.0 → IsThere c.verts w.0 → v.0 ≢ w.0
    → IsLinked c → IsLinked (edge_between c v w).0
IsLinked-edge_between c v w a b differ h = IsLinked-found c v w (edge_joining c.edges v w) a b differ h

IsValid-found : (c : Complex) (v w : VertName) (found : Option EdgeName)
    → length (with_found c v w found).0.edges ≤ MAX_EDGES → IsThere c.verts v.0 → IsThere c.verts w.0 → v.0 ≢ w.0
    → IsValid c → IsValid (with_found c v w found).0
IsValid-found c v w None few a b differ h =
    IsValid-with_edge c (edge_from_to c v w) (omega (arith, length-append c.edges (Some (edge_from_to c v w) ∷ [])))
    (edge_linked c v w a b differ) (record { vals = in_range-zeros (width c Edges) }) h
IsValid-found c v w (Some e) few a b differ h = h

pub IsValid-edge_between : (c : Complex) (v w : VertName) → length (edge_between c v w).0.edges ≤ MAX_EDGES
    → IsThere c.verts v.0 → IsThere c.verts w.0 → v.0 ≢ w.0 → IsValid c → IsValid (edge_between c v w).0
IsValid-edge_between c v w few a b differ h = IsValid-found c v w (edge_joining c.edges v w) few a b differ h

IsSimple-found : (c : Complex) (v w : VertName) (found : Option EdgeName) → edge_joining c.edges v w ≡ found
    → IsSimple c → IsSimple (with_found c v w found).0
IsSimple-found c v w None none h = IsSimple-with_edge c (edge_from_to c v w) (JoinsNone-edge_joining c.edges v w none) h
IsSimple-found c v w (Some e) some h = h

pub IsSimple-edge_between : (c : Complex) (v w : VertName) → IsSimple c → IsSimple (edge_between c v w).0
IsSimple-edge_between c v w h = IsSimple-found c v w (edge_joining c.edges v w) refl h

few_found : (c : Complex) (v w : VertName) (found : Option EdgeName)
    → length (with_found c v w found).0.edges ≤ length c.edges + 1
few_found c v w None = omega (arith, length-append c.edges (Some (edge_from_to c v w) ∷ []))
few_found c v w (Some e) = omega arith

pub few-edge_between : (c : Complex) (v w : VertName) → length (edge_between c v w).0.edges ≤ length c.edges + 1
few-edge_between c v w = few_found c v w (edge_joining c.edges v w)

-- it is the edge of the table of edges
edge_between_found : (c : Complex) (v w : VertName) (found : Option EdgeName)
    → with_found c v w found ≡ (let made = found_in c.layers.edges c.edges v w found in
    (record c { edges = made.0 }, made.1))
edge_between_found c v w None = refl
edge_between_found c v w (Some e) = refl

pub edge_between-in : (c : Complex) (v w : VertName)
    → edge_between c v w ≡ (let made = edge_in c.layers.edges c.edges v w in (record c { edges = made.0 }, made.1))
edge_between-in c v w = edge_between_found c v w (edge_joining c.edges v w)

faces_found : (c : Complex) (v w : VertName) (found : Option EdgeName) → (with_found c v w found).0.faces ≡ c.faces
faces_found c v w None = refl
faces_found c v w (Some e) = refl

pub IsDraft-edge_between : (c : Complex) (flags flags' : List Bool) (corners : List CornerRec)
    (index index' : EdgeIndex) (v w : VertName) → IsThere c.verts v.0 → IsThere c.verts w.0 → v.0 ≢ w.0
    → ((e : ℕ) → is_in flags' e ≡ is_in flags e) → Knows index' (edge_between c v w).0.edges
    → IsDraft c flags corners index → IsDraft (edge_between c v w).0 flags' corners index'
IsDraft-edge_between c flags flags' corners index index' v w a b differ same knows h = record {
  linked = IsLinked-edge_between c v w a b differ h.linked;
  used = λ e. same e.0 ∙ h.used e
      ∙ ap (λ fs. list_any (passes (uses_edge e)) fs) (sym (faces_found c v w (edge_joining c.edges v w)));
  closed = h.closed;
  knows = knows;
}

-- ---- NAMES MORE

no_fewer_found : (names : List (List ℕ)) (name : List ℕ) (found : Option ℕ)
    → length names ≤ length (with_found_name names name found).0
no_fewer_found names name None = omega (arith, length-append names (name ∷ []))
no_fewer_found names name (Some k) = omega arith

-- other names, and no fewer materials: nothing else changes
renamed : (c : Complex) (materials libraries : List (List ℕ)) → length c.materials ≤ length materials
    → IsGrown (record c { materials = materials; libraries = libraries }) c
renamed c materials libraries few = record {
  verts = λ n x is. is;
  edges = λ n x is. is;
  faces = λ n x is. is;
  layers =
      refl;
  materials = few;
}

same_linked : (d c : Complex) → d.verts ≡ c.verts → d.edges ≡ c.edges → d.faces ≡ c.faces → AreNewLinked d c
same_linked d c v e f = record {
  verts = λ n x is. inl (ap (λ t. at t n) (sym v) ∙ is);
  edges = λ n x is. inl (ap (λ t. at t n) (sym e) ∙ is);
  faces = λ n x is. inl (ap (λ t. at t n) (sym f) ∙ is);
}

pub IsLinked-renamed : (c : Complex) (materials libraries : List (List ℕ)) → length c.materials ≤ length materials
    → IsLinked c → IsLinked (record c { materials = materials; libraries = libraries })
IsLinked-renamed c materials libraries few h =
    let d : Complex = record c { materials = materials; libraries = libraries } in
    IsLinked-grown d c (renamed c materials libraries few) (same_linked d c refl refl refl) h

pub IsValid-renamed : (c : Complex) (materials libraries : List (List ℕ)) → length c.materials ≤ length materials
    → IsValid c → IsValid (record c { materials = materials; libraries = libraries })
IsValid-renamed c materials libraries few h =
    let d : Complex = record c { materials = materials; libraries = libraries } in
    IsValid-grown d c (renamed c materials libraries few) (same_linked d c refl refl refl)
    (record {
      verts = λ n x is. inl is;
      edges = λ n x is. inl is;
      faces = λ n x is. inl is;
      limits =
          record { verts = h.limits.verts; edges = h.limits.edges; faces = h.limits.faces; corners = h.limits.corners };
    })
    h

pub few-with_name : (names : List (List ℕ)) (name : List ℕ) → length names ≤ length (with_name names name).0
few-with_name names name = no_fewer_found names name (position (same_name name) names)

pub IsDraft-renamed : (c : Complex) (flags : List Bool) (corners : List CornerRec) (index : EdgeIndex)
    (materials libraries : List (List ℕ)) → length c.materials ≤ length materials → IsDraft c flags corners index
    → IsDraft (record c { materials = materials; libraries = libraries }) flags corners index
IsDraft-renamed c flags corners index materials libraries few h =
    record {
      linked = IsLinked-renamed c materials libraries few h.linked;
      used = h.used;
      closed = h.closed;
      knows =
          h.knows;
    }
