-- What a table means: the laws of the forms, with old headers.
use Rattle.manifest_schema.specs.Prelude.{Data, table, Members, get_member, Text, slot, Kind, meets_optional, form, fits, IsSound, Package, Manifest, package_rows, workspace_rows, manifest_rows, well_formed, rewritten, has_header, old_package, means_by, is_headed, MeansOne, WrittenIsRead, AcceptedIsWellFormed, WrittenMeansTheSame, SameWrittenIsSame, RewrittenTwiceIsOnce, RewrittenMeansTheSame, SameExactly}
use Rattle.std.proofs.Common.{◌≡◌, Bool, true, false, Option, Some, None, codes, refl, sym, ap, ap₂, ◌∙◌, ◌||◌, is_some}
use Rattle.manifest_schema.proofs.Forms.ManifestLaws.{package_sound, manifest_sound}

-- the value that old headers take the package from
abbrev old_value : Members → Data
old_value ms = old_package ms (get_member (codes "project") ms)

module _ {K W : Kind Data} (k : IsSound K) (w : IsSound W) where
  means_by_one : (h : Bool) (ms : Members) (m n : Manifest) → means_by K W h ms m → means_by K W h ms n → m ≡ n
  means_by_one true ms m n a b = (manifest_sound K W k w).single (table ms) m n a b
  means_by_one false ms m n a b =
      let manifests : a.0 ≡ b.0 = (manifest_sound K W k w).single (table ms) a.0 b.0 a.2 b.2 in
      let packages : a.1 ≡ b.1 = (package_sound K k).single (old_value ms) a.1 b.1 a.3 b.3 in
      a.4 ∙ ap₂ (λ (n : Manifest) (p : Package). record n { «package» = Some p }) manifests packages ∙ sym b.4

  pub means_one : MeansOne K W
  means_one ms m n a b = means_by_one (has_header ms) ms m n a b

  pub written_is_read : WrittenIsRead K W
  written_is_read m g = ((manifest_sound K W k w).back m g).0

  means_by_well : (h : Bool) (ms : Members) (m : Manifest) → means_by K W h ms m → well_formed K W m
  unfolding manifest_rows
  means_by_well true ms m a = (manifest_sound K W k w).well (table ms) m a
  means_by_well false ms m a =
      rw a.4 (let g : well_formed K W a.0 = (manifest_sound K W k w).well (table ms) a.0 a.2 in
      ((package_sound K k).well (old_value ms) a.1 a.3, g.1))

-- HEADERS: a table has a header exactly where its manifest has a package or a workspace
present : {B : Type 0} (N : Kind B) (k : Text) (o : Option Data) (x : Option B) → meets_optional N (slot k o) x
    → is_some o ≡ is_some x
present N k None None a = refl
present N k None (Some x) a = absurd a
present N k (Some d) None a = absurd a
present N k (Some d) (Some x) a = refl

pub headers : (K W : Kind Data) (ms : Members) (m : Manifest) → fits (manifest_rows K W) ms m
    → has_header ms ≡ is_headed m
unfolding manifest_rows
headers K W ms m a =
    ap₂ (λ a b. a || b) (present (form (package_rows K)) (codes "package") (get_member (codes "package") ms) m.package
    assumption)
    (present (form (workspace_rows W)) (codes "workspace") (get_member (codes "workspace") ms) m.workspace assumption)

means_by_headed : (K W : Kind Data) (h : Bool) (ms : Members) (m : Manifest) → h ≡ has_header ms → means_by K W h ms m
    → is_headed m ≡ true
means_by_headed K W true ms m e a = sym (headers K W ms m a) ∙ sym e
means_by_headed K W false ms m e a = rw a.4

module _ {K W : Kind Data} (k : IsSound K) (w : IsSound W) where
  pub accepted_is_well_formed : AcceptedIsWellFormed K W
  accepted_is_well_formed ms m a = (
    means_by_well k w (has_header ms) ms m a,
    means_by_headed K W (has_header ms) ms m
        refl a,
  )

  pub written_means_the_same : WrittenMeansTheSame K W
  written_means_the_same m good headed =
      let back : fits (manifest_rows K W) (rewritten K W m) m = written_is_read k w m good in
      rw (headers K W (rewritten K W m) m back, headed) back

  pub rewritten_means_the_same : RewrittenMeansTheSame K W
  rewritten_means_the_same ms m a =
      let (good, headed) = accepted_is_well_formed ms m a in
      written_means_the_same m good headed

  pub same_written_is_same : SameWrittenIsSame K W
  same_written_is_same m n g h e =
      (manifest_sound K W k w).single (table (rewritten K W m)) m n (written_is_read k w m g)
      (rw e (written_is_read k w n h))

  pub rewritten_twice_is_once : RewrittenTwiceIsOnce K W
  rewritten_twice_is_once ms m n a b =
      ap (rewritten K W) (means_one k w (rewritten K W m) n m b (rewritten_means_the_same ms m a))

  pub same_exactly : SameExactly K W
  same_exactly ms ns m n a b = (
    ap (rewritten K W),
    λ e. means_one k w (rewritten K W m) m n
        (rewritten_means_the_same ms m a) (rw e (rewritten_means_the_same ns n b)),
  )
