-- What is promised of resolving.
use Rattle.manifest_schema.specs.Prelude.{Contains, Data, Kind, form, Path, Workspace, Manifest, workspace_rows, well_formed, KeepsValidDates}
use Rattle.std.specs.Prelude.{◌≡◌, ◌↔◌, []}
use Rattle.std.specs.List.{AllPairs}
use Rattle.manifest_completion.specs.Listings.{ListingMap}
use Rattle.manifest_completion.specs.Completed.{completed_to, completed}
use Rattle.manifest_inherit.specs.Refused.{Refusal, all_refusals}
use Rattle.manifest_inherit.specs.Pins.{refused_at, KeysDiffer}
use Rattle.manifest_inherit.specs.Own.{InheritsNothing}
use Rattle.manifest_inherit.specs.Answers.{ResolvesTo}

-- a resolved manifest inherits nothing, and is resolved to itself
pub record IsSettled (m : Manifest) (w : Workspace) : Type 0 where
  pub own : InheritsNothing m
  pub again : ResolvesTo m w m

abbrev pub ResolvedIsSettled : Type 0
ResolvedIsSettled = (m n : Manifest) (w : Workspace) → ResolvesTo m w n → IsSettled n w

-- so is every manifest that inherits nothing, over any workspace
abbrev pub OwnIsSettled : Type 0
OwnIsSettled = (m : Manifest) (w : Workspace) → InheritsNothing m → IsSettled m w

-- resolving well-formed contents gives a well-formed manifest; K and W are its kinds of metadata, V the workspace's
abbrev pub ResolvedIsWellFormed : Kind Data → Kind Data → Kind Data → Type 0
ResolvedIsWellFormed K W V =
    (m n : Manifest) (w : Workspace) → well_formed K W m → (form (workspace_rows V)).good w →
    ResolvesTo m w n → well_formed K W n

-- and where that is then completed, the result is settled, and is completed to itself over the same listings
abbrev pub CompletedStaysResolved : Kind Data → Kind Data → Kind Data → Type 0
CompletedStaysResolved K W V =
    (m n o : Manifest) (w : Workspace) (l : ListingMap) →
    well_formed K W m → (form (workspace_rows V)).good w →
    ResolvesTo m w n → completed n l ≡ completed_to o →
    IsSettled o w × (completed o l ≡ completed_to o)

-- a resolved manifest keeps no other date-time than the manifest did: none is inherited from a workspace
abbrev pub ResolvedDatesAreValid : Type 0
ResolvedDatesAreValid =
    (m n : Manifest) (w : Workspace) → KeepsValidDates m → ResolvesTo m w n → KeepsValidDates n

-- the list has a refusal at a path exactly if what stands there in the manifest is refused for that reason
abbrev pub ListsEachRefusal : Type 0
ListsEachRefusal =
    (m : Manifest) (w : Workspace) (p : Path) (r : Refusal) →
    Contains (all_refusals m w) (p, r) ↔ refused_at m w p r

-- so it is empty exactly if nothing is refused
abbrev pub EmptyIfNoneHolds : Type 0
EmptyIfNoneHolds =
    (m : Manifest) (w : Workspace) →
    (all_refusals m w ≡ []) ↔ ((p : Path) (r : Refusal) → refused_at m w p r → ⊥)

-- and it has none twice, where the keys of each map differ
abbrev pub ListsEachOnce : Type 0
ListsEachOnce =
    (m : Manifest) (w : Workspace) → KeysDiffer m →
    AllPairs (λ f g. f ≡ g → ⊥) (all_refusals m w)
