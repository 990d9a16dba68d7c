-- An empty store is a whole mesh without a name.
use Rattle.std.proofs.Common.{◌≡◌, ℕ, [], Some, None, refl, sym, subst, arith}
use Rattle.std.proofs.lemmas.Bool.{false≢true}
use Rattle.std.proofs.lemmas.List.Elements.{All-nil}
use Rattle.cust_data.specs.Layers.{IsTable, AreLayers}
use Rattle.mesh_store.specs.Stored.{Stored, empty_store}
use Rattle.mesh_store.specs.Naming.{AreNamed}
use Rattle.mesh_cycles.specs.Cycles.{HaveCycles}
use Rattle.mesh_cycles.proofs.Elements.{empty_cycles}
use Rattle.mesh_model.specs.declared.records.Counters.{Counters}
use Rattle.mesh_records.specs.Whole.{AreRecords, HaveValues, AreSizes, IsWhole}

no_counters : Counters
no_counters = record { verts = 0; edges = 0; faces = 0; corners = 0 }

-- there is nothing in None
nothing : {X P : Type 0} (x : X) → None ≡ Some x → P
nothing {X} x e = absurd (let q : None ≡ Some x = e in cc)

no_names : {X : Type 0} (number : X → ℕ) → AreNamed number [] []
no_names number = record { named = λ s x e. nothing x e; live = λ n s e. nothing s e }

empty_records : AreRecords empty_store no_counters
unfolding no_counters
empty_records = record {
  linked = record {
    a = λ s e is. nothing e is;
    b = λ s e is. nothing e is;
    vert = λ s l is. nothing l is;
    edge = λ s l is. nothing l is;
    face = λ s l is. nothing l is;
  };
  named = record { verts = no_names _; edges = no_names _; faces = no_names _ };
  below = record { verts = λ k le. refl; edges = λ k le. refl; faces = λ k le. refl };
}

empty_links : HaveCycles empty_store
empty_links = record {
  cycles = empty_cycles empty_store refl;
  complete = record {
    disks = λ v d h e. absurd (false≢true h);
    radials = λ l e is. nothing e is;
    rounds = λ l f is. nothing f is;
  };
  counted = λ f n is. nothing n is;
}

no_layers_are : AreLayers []
no_layers_are = record {
  few = omega arith;
  named = All-nil _;
  distinct = λ i j d below less. absurd (omega arith);
  widths = All-nil _;
}

empty_values : HaveValues empty_store
empty_values =
    let table : IsTable (record { layers = []; rows = [] }) = record { layers = no_layers_are; fitted = All-nil _ } in
    record {
      verts = table;
      edges = table;
      loops = table;
      faces = table;
      rows = record {
        verts = omega arith;
        edges = omega arith;
        loops = omega arith;
        faces = omega arith;
        few = omega arith;
      };
    }

empty_sizes : AreSizes empty_store no_counters
unfolding no_counters
empty_sizes =
    record {
      vert_limit = omega arith;
      edge_limit = omega arith;
      face_limit = omega arith;
      corner_limit = omega arith;
      vert_reach = omega arith;
      edge_reach = omega arith;
      face_reach = omega arith;
      verts = record { live = omega arith; small = omega arith };
      edges = record { live = omega arith; small = omega arith };
      faces = record { live = omega arith; small = omega arith };
      loops = record { live = omega arith; small = omega arith };
    }

pub empty_whole : (st : Stored) → st ≡ empty_store
    → IsWhole st (record { verts = 0; edges = 0; faces = 0; corners = 0 })
unfolding no_counters
empty_whole st e =
    let P = λ (t : Stored). IsWhole t (record { verts = 0; edges = 0; faces = 0; corners = 0 }) in
    subst P (sym e) (record {
      records = empty_records;
      cycles = empty_links;
      values = empty_values;
      sizes = empty_sizes;
      some = λ f is q. false≢true is;
      corners = refl;
    })
