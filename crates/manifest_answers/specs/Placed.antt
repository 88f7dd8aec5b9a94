-- Where in a text that stands which is found in its table, as a value and as its tagged bytes.
use Rattle.manifest_schema.specs.Prelude.{Data, Members, integer, array, no_items, Text, Path}
use Rattle.std.specs.Prelude.{◌≡◌, ◌⊎◌, ℕ, [], List, map, Option, Some, None}
use Rattle.toml.specs.View.{items_of}
use Rattle.manifest_bytes.specs.Encoded.{encoded}
use Rattle.manifest_fault.specs.Found.{found_among}
use Rattle.manifest_fault.specs.declared.findings.FindingNode.{FindingNode}
use Rattle.manifest_fault.specs.declared.schema_findings.Finding.{Finding}
use Rattle.manifest_places.specs.Finding.{AreFound}
use Rattle.manifest_places.specs.Findings.{AreLocated, finding_paths}
use Rattle.manifest_places.specs.declared.keys.Span.{Span}
use Rattle.manifest_places.specs.declared.located.Located.{Located}
use Rattle.manifest_places.specs.declared.finding.Places.{Places}
use Rattle.manifest_answers.specs.Read.{IsDocument, IsNoDocument}
use Rattle.manifest_answers.specs.Inspected.{pair_data, triple_data, index_number, finding_data, nodes_data, SayAllFound}
use Rattle.manifest_answers.specs.Made.{Refusals, IsOutOfMemory, OfBytes, AreWithin, RefusesTagged}

-- A RANGE: where it begins and where it ends; of none the empty array
abbrev pub range_data : Option Span → Data
range_data None = array no_items
range_data (Some s) = pair_data (integer (index_number s.from)) (integer (index_number s.to))

-- WHERE A FINDING STANDS: the ranges of the value, of its key and of its header
abbrev pub located_data : Located → Data
located_data l = triple_data (range_data l.value) (range_data l.key) (range_data l.header)

-- and each of several
abbrev pub places_data : List Located → Data
places_data ls = array (items_of (map located_data ls))

-- What belongs to these paths stands there by places that are those of the text, one for each of them; or none is said to
-- stand anywhere.
abbrev pub AreFoundIn : Text → List Path → List Located → Type 0
AreFoundIn text ps ls =
    (ls ≡ []) ⊎ ((places : Places) × AreFound text places × AreLocated places ps ls)

-- A TREE OF FINDINGS, AND WHERE THEY STAND in the text
abbrev pub placed_data : List (FindingNode Finding) → List Located → Data
placed_data nodes ls = pair_data (nodes_data finding_data nodes) (places_data ls)

-- the text is the tagged bytes of nodes, and of where that stands which they say
abbrev pub GivesPlaced : ℕ → Text → List (FindingNode Finding) → Text → Type 0
GivesPlaced most bytes nodes text =
    (ls : List Located) × AreFoundIn bytes (finding_paths (found_among nodes)) ls
    × AreWithin most (encoded (placed_data nodes ls)) text

-- memory ran out, or the tagged bytes are refused as they are made
abbrev pub RefusesPlaced : ℕ → Text → List (FindingNode Finding) → Refusals
RefusesPlaced most bytes nodes e =
    IsOutOfMemory e
    ⊎ ((ls : List Located) × AreFoundIn bytes (finding_paths (found_among nodes)) ls
    × RefusesTagged most (encoded (placed_data nodes ls)) e)

-- the nodes say all that is found in the table of this text, and no more
abbrev pub GivesPlacedFound : ℕ → Text → Members → Text → Type 0
GivesPlacedFound most bytes document text =
    (nodes : List (FindingNode Finding)) × SayAllFound document nodes
    × GivesPlaced most bytes nodes text

abbrev pub RefusesPlacedFound : ℕ → Text → Members → Refusals
RefusesPlacedFound most bytes document e =
    IsOutOfMemory e
    ⊎ ((nodes : List (FindingNode Finding)) × SayAllFound document nodes
    × RefusesPlaced most bytes nodes e)

-- THE TEXT says what is found in the table that the bytes are, and where in them that stands
abbrev pub GivesPlacedFindings : ℕ → Text → Text → Type 0
GivesPlacedFindings most bytes text =
    (document : Members) × IsDocument bytes document × GivesPlacedFound most bytes document text

-- the bytes are refused as they are read, or the tagged bytes as they are made
abbrev pub RefusesPlacedFindings : ℕ → Text → Refusals
RefusesPlacedFindings most bytes e =
    OfBytes (IsNoDocument bytes) e
    ⊎ ((document : Members) × IsDocument bytes document × RefusesPlacedFound most bytes document e)
