-- What `toml` reads has no date-time that TOML cannot write.
use Rattle.manifest_schema.specs.Prelude.{IfSome, match_ordering, slice_cmp, both_true, and_parts, Data, array, table, Items, no_items, item, same_key, HasValidDates, has_valid_dates, items_have_valid_dates, members_have_valid_dates, key_value, std_table, array_table, Expression}
use Rattle.std.proofs.Common.{◌≡◌, ℕ, zero, suc, ◌∷◌, [], Less, Equal, Greater, nat_cmp, Bool, true, false, ◌&&◌, if◌then◌else◌, List, Option, Some, None, option_map, option_and_then, refl, rules, arith}
use Rattle.toml_datetime.specs.Valid.{is_valid}
use Rattle.toml_datetime.specs.Parse.{parse_datetime}
use Rattle.toml_datetime.proofs.DatetimeLemmas.{is_valid-parse_datetime}
use Rattle.toml_parser.specs.Lexical.{Read}
use Rattle.toml_parser.specs.Strings.{Key, recursion_limit}
use Rattle.toml_parser.specs.Numbers.{number, plain_number, decimal_number, prefixed_integer, word_value, unquoted}
use Rattle.toml.specs.Data.{push_item}
use Rattle.toml.specs.Tables.{Node, value, open_table, open_array, Nodes, no_nodes, node, get_node, insert, replace, close, close_node, Edit, header_node, dot_node, along_header, along_dots, Definition, new_node, redefine, at_key, put, Document, define_as, define, implicit, dotted}
use Rattle.toml.specs.Parse.{keyval, items, members, atom, val, expression, line, lines, parse_document}
use Rattle.manifest_schema.proofs.Values.DateLaws.{meant_dates_are_valid}
use Rattle.cargo_manifest.specs.Dates.{ParsedDatesAreValid, ReadDatesAreValid}

-- what is so of a value, if there is one
record Gives {A : Type 0} (Q : A → Type 0) (o : Option A) : Type 0 where
  given : IfSome o Q

none_gives : {A : Type 0} {Q : A → Type 0} → Gives Q None
none_gives = record { given = tt }

some_gives : {A : Type 0} {Q : A → Type 0} {a : A} → Q a → Gives Q (Some a)
some_gives h = record { given = h }

either_gives : {A : Type 0} {Q : A → Type 0} (b : Bool) {x y : Option A} → Gives Q x → Gives Q y
    → Gives Q (if b then x else y)
either_gives true h g = h
either_gives false h g = g

then_gives : {A B : Type 0} {Q : B → Type 0} (f : A → Option B) (o : Option A) → Gives (λ a. Gives Q (f a)) o
    → Gives Q (option_and_then f o)
then_gives f None h = none_gives
then_gives f (Some a) h = h.given

map_gives : {A B : Type 0} {Q : B → Type 0} (f : A → B) (o : Option A) → Gives (λ a. Q (f a)) o
    → Gives Q (option_map f o)
map_gives f None h = none_gives
map_gives f (Some a) h = some_gives h.given

any_gives : {A : Type 0} {Q : A → Type 0} (o : Option A) → ((a : A) → Q a) → Gives Q o
any_gives None h = none_gives
any_gives (Some a) h = some_gives (h a)

so_gives : {A : Type 0} {P Q : A → Type 0} {o : Option A} → Gives P o → ((a : A) → P a → Q a) → Gives Q o
so_gives {o = None} h g = none_gives
so_gives {o = Some a} h g = some_gives (g a h.given)

ruleset reading = (none_gives, some_gives, either_gives, then_gives, map_gives)

-- a string or a scalar
date_valid : (word : List ℕ) → Gives (λ dt. is_valid dt ≡ true) (parse_datetime word)
date_valid word = record { given = is_valid-parse_datetime word }

atom_valid : (text : List ℕ) → Gives (λ r. HasValidDates r.0) (atom text)
unfolding atom unquoted word_value number plain_number decimal_number prefixed_integer
atom_valid text = search (rules, reading, date_valid, any_gives) depth 30 fits 20000

-- arrays with one more item
push_dates : (ds : Items) (d : Data) → items_have_valid_dates (push_item ds d) ≡ (items_have_valid_dates ds
    && has_valid_dates d)
push_dates no_items d = grind arith
push_dates (item e ds) d = grind (arith, push_dates ds d)

-- NODES, by the values that they stand for
abbrev ValidNode : Node → Type 0
ValidNode x = HasValidDates (close_node x)

abbrev ValidNodes : Nodes → Type 0
ValidNodes ns = HasValidDates (table (close ns))

-- a new key, another node at a key that is there, and what a key holds
insert_valid : (k : List ℕ) (x : Node) (ns : Nodes) → ValidNode x → ValidNodes ns → ValidNodes (insert k x ns)
insert_valid k x no_nodes h g = both_true h refl
insert_valid k x (node l y ns) h g = grind (arith, insert_valid k x ns h)

replace_valid : (k : List ℕ) (x : Node) (ns : Nodes) → ValidNode x → ValidNodes ns → ValidNodes (replace k x ns)
replace_valid k x no_nodes h g = refl
replace_valid k x (node l y ns) h g = grind (arith, replace_valid k x ns h)

get_valid : (k : List ℕ) (ns : Nodes) → ValidNodes ns → Gives ValidNode (get_node k ns)
get_valid k no_nodes h = none_gives
get_valid k (node l x ns) h = let (here, more) = and_parts (has_valid_dates (close_node x)) _ h in
    either_gives _ (some_gives here) (get_valid k ns more)

-- EDITS that keep it
record Keeps (edit : Edit) : Type 0 where
  keeps : (ns : Nodes) → ValidNodes ns → Gives ValidNodes (edit ns)

-- a step of each: at a key that holds a node, or where a node is made of what the rest makes of none
abbrev at_node : (Nodes → Node) → Edit → (Node → Option Node) → List ℕ → Nodes → Option Node → Option Nodes
at_node made edit step k ns None = option_map (λ new. insert k (made new) ns) (edit no_nodes)
at_node made edit step k ns (Some x) = option_map (λ y. replace k y ns) (step x)

node_kept : (made : Nodes → Node) (edit : Edit) (step : Node → Option Node) → ((ns : Nodes) → ValidNodes ns
    → ValidNode (made ns)) → Keeps edit → ((x : Node) → ValidNode x → Gives ValidNode (step x))
    → (k : List ℕ) (ns : Nodes) → ValidNodes ns → (o : Option Node) → Gives ValidNode o
    → Gives ValidNodes (at_node made edit step k ns o)
node_kept made edit step m e s k ns h None g = map_gives _ _ (so_gives (e.keeps no_nodes refl)
    (λ new n. insert_valid k (made new) ns (m new n) h))
node_kept made edit step m e s k ns h (Some x) g =
    map_gives _ _ (so_gives (s x g.given) (λ y n. replace_valid k y ns n h))

header_kept : {edit : Edit} → Keeps edit → (x : Node) → ValidNode x → Gives ValidNode (header_node edit x)
header_kept e (value d) h = none_gives
header_kept e (open_table origin inner) h = map_gives _ _ (e.keeps inner h)
header_kept e (open_array done last) h =
    let (here, more) = and_parts (items_have_valid_dates done) _ (rw push_dates at h) in
    map_gives _ _ (so_gives (e.keeps last more) (λ ns g. rw push_dates (both_true here g)))

dot_kept : {edit : Edit} → Keeps edit → (x : Node) → ValidNode x → Gives ValidNode (dot_node edit x)
dot_kept e (open_table implicit inner) h = map_gives _ _ (e.keeps inner h)
dot_kept e (open_table dotted inner) h = map_gives _ _ (e.keeps inner h)
dot_kept e _ h = none_gives

along_header_keeps : (path : List (List ℕ)) {edit : Edit} → Keeps edit → Keeps (along_header path edit)
unfolding along_header
along_header_keeps [] e = record { keeps = e.keeps }
along_header_keeps (k ∷ path) e = let ih = along_header_keeps path e in
    record {
      keeps = λ ns h. node_kept (open_table implicit) _ _ (λ ns n. n) ih (header_kept ih) k ns h (get_node k ns)
          (get_valid k ns h);
    }

along_dots_keeps : (path : List (List ℕ)) {edit : Edit} → Keeps edit → Keeps (along_dots path edit)
unfolding along_dots
along_dots_keeps [] e = record { keeps = e.keeps }
along_dots_keeps (k ∷ path) e = let ih = along_dots_keeps path e in
    record {
      keeps = λ ns h. node_kept (open_table dotted) _ _ (λ ns n. n) ih (dot_kept ih) k ns h (get_node k ns)
          (get_valid k ns h);
    }

-- DEFINITIONS
abbrev ValidDefinition : Definition → Type 0
ValidDefinition what = ValidNode (new_node what)

redefined_valid : (what : Definition) (x : Node) → ValidNode x → Gives ValidNode (redefine what x)
redefined_valid std_table (open_table implicit inner) h = some_gives h
redefined_valid array_table (open_array done last) h = some_gives (rw push_dates (both_true h refl))
redefined_valid _ _ h = none_gives

at_key_keeps : (k : List ℕ) (what : Definition) → ValidDefinition what → Keeps (at_key k what)
unfolding at_key
at_key_keeps k what w = let same : Keeps Some = record { keeps = λ ns h. some_gives h } in
    record {
      keeps = λ ns h. node_kept (λ n. new_node what) Some (redefine what) (λ ns n. w) same (redefined_valid what)
          k ns h (get_node k ns) (get_valid k ns h);
    }

put_keeps : (key : Key) (d : Data) → HasValidDates d → Keeps (put key d)
put_keeps key d h = along_dots_keeps key.0 (at_key_keeps key.1 (key_value d) h)

define_valid : (doc : Document) (key : Key) (what : Definition) → ValidNodes doc.0 → ValidDefinition what
    → Gives (λ new. ValidNodes new.0) (define_as doc key what)
define_valid doc key (key_value d) h w = map_gives _ _ ((along_header_keeps doc.1 (put_keeps key d w)).keeps doc.0 h)
define_valid doc key what h w = map_gives _ _ ((along_header_keeps key.0 (at_key_keeps key.1 what w)).keeps doc.0 h)

-- VALUES
record Reads (val : List ℕ → Read Data) : Type 0 where
  reads : (text : List ℕ) → Gives (λ r. HasValidDates r.0) (val text)

module _ {val : List ℕ → Read Data} (v : Reads val) where
  keyval_valid : (text : List ℕ) → Gives (λ r. HasValidDates r.0.1) (keyval val text)
  keyval_valid text = search (reading, any_gives, v.reads)

  items_valid : (n : ℕ) (found : Items) (text : List ℕ) → HasValidDates (array found)
      → Gives (λ r. HasValidDates (array r.0)) (items val n found text)
  unfolding items
  items_valid zero found text h = none_gives
  items_valid (suc n) found text h =
      either_gives _ (some_gives h) (then_gives _ _ (so_gives (v.reads _)
      (λ r g. then_gives _ _ (any_gives _ (λ rest. items_valid n (push_item found r.0) rest
      (rw push_dates (both_true h g)))))))

  members_valid : (n : ℕ) (found : Nodes) (text : List ℕ) → ValidNodes found → Gives (λ r. HasValidDates (table r.0))
      (members val n found text)
  unfolding members
  members_valid zero found text h = none_gives
  members_valid (suc n) found text h =
      either_gives _ (some_gives h) (then_gives _ _ (so_gives (keyval_valid _) (λ r g. then_gives _ _
      (so_gives ((put_keeps r.0.0 r.0.1 g).keeps found h)
      (λ more m. then_gives _ _ (any_gives _ (λ rest. members_valid n more rest m)))))))

val_valid : (depth : ℕ) → Reads (val depth)
unfolding val
val_valid zero = record { reads = atom_valid }
val_valid (suc depth) = record {
  reads = λ text. search (
    rules,
    reading,
    items_valid (val_valid depth),
    members_valid
        (val_valid depth),
    atom_valid,
  );
}

-- DOCUMENTS
expression_valid : (text : List ℕ) → Gives (λ e. ValidDefinition e.0.1) (expression text)
unfolding expression
expression_valid text = search (rules, reading, keyval_valid (val_valid recursion_limit), any_gives)

lines_valid : (n : ℕ) (doc : Document) (text : List ℕ) → ValidNodes doc.0 → Gives (λ new. ValidNodes new.0)
    (lines n doc text)
unfolding lines line define
lines_valid zero doc text h = none_gives
lines_valid (suc n) doc text h =
    either_gives _ (some_gives h) (then_gives _ _ (then_gives _ _ (so_gives (expression_valid _) (λ e g. either_gives _
    (some_gives (then_gives _ _ (so_gives (define_valid doc e.0.0 e.0.1 h g) (λ next d. lines_valid n next e.1 d))))
    none_gives))))

pub parsed_dates_are_valid : ParsedDatesAreValid
unfolding parse_document
parsed_dates_are_valid text ms e =
    let all : Gives (λ ms. HasValidDates (table ms)) (parse_document text) =
    map_gives _ _ (lines_valid _ (no_nodes, []) _ refl) in
    (rw e at all).given

pub read_dates_are_valid : ReadDatesAreValid
read_dates_are_valid bytes m is = meant_dates_are_valid is.document m is.meant (parsed_dates_are_valid bytes is.document
    is.parsed)
