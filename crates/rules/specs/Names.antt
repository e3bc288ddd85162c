-- Names: which a pattern binds (BoundNames of ECMA-262), and which a chain declares.
--
--   same, among, distinct              names compared; each once
--   bound                              the bound names of patterns
--   declared, declared_below           the names declared in a tree, and below a record
--   exported                           the names that an Export declaration declares
-- A list of names is a list of the records that bear them where a refusal has to name the record.
use Rattle.std.specs.Prelude.{Bool, false, not, ◌&&◌, ◌||◌, List, [], ◌∷◌, ◌++◌, ◌==◌, if◌then◌else◌}
use Rattle.rules.specs.Tree.{Head, Chain, Name, ◌is◌, name_of}
use Rattle.rules.specs.Tree.Chain.{end, link}
use Rattle.rules.specs.Kinds.{member, definition_expression, specifier, export_default, fn_declaration, class_declaration, var_declaration, catch_part, declarator, function, constructor, arrow, name_pattern, compound_pattern, default_pattern, property_name}

-- two names are one
abbrev pub same : Name → Name → Bool
same a b = a.symbol == b.symbol && a.mark == b.mark

-- a name stands in a list
abbrev pub among : Name → List Name → Bool
among n [] = false
among n (m ∷ ms) = same n m || among n ms

-- the names that records bear
abbrev pub names_of : List Head → List Name
names_of [] = []
names_of (h ∷ hs) = name_of h ∷ names_of hs

-- each name once, where it comes first
abbrev pub distinct : (seen names : List Name) → List Name
distinct seen [] = []
distinct seen (n ∷ ns) = if among n seen then distinct seen ns else n ∷ distinct (n ∷ seen) ns

-- a record that binds its name
abbrev pub binds : Head → Bool
binds h = h is name_pattern || h is property_name

-- a pattern made of patterns
abbrev pub nests : Head → Bool
nests h = h is compound_pattern || h is default_pattern

-- a record before others, if it is wanted
abbrev pub keep : Bool → Head → List Head → List Head
keep wanted h hs = if wanted then h ∷ hs else hs

-- the records that bear the bound names of a chain's patterns, to any depth, outside expressions
abbrev pub bound : Chain → List Head
bound end = []
bound (link h children rest) =
    keep (binds h) h ((if nests h then bound children else []) ++ bound rest)

-- a record whose patterns bind: a Declarator, a Catch, and what has parameters
abbrev pub binding : Head → Bool
binding h = member h.kind (declarator ∷ catch_part ∷ function ∷ constructor ∷ arrow ∷ [])

-- what surrounds a chain, as far as declaring goes: its patterns bind, or it is the child of an Export default
pub record Under : Type 0 where
  pub binding : Bool
  pub default : Bool

-- nothing that declares surrounds a chain
abbrev pub under_nothing : Under
under_nothing = record { binding = false; default = false }

-- what surrounds a record's children
abbrev pub under : Under → Head → Under
under u h = record {
  binding = binding h || (u.binding && nests h);
  default = h is export_default;
}

-- a record declares its name
abbrev pub declares : Under → Head → Bool
declares u h =
    member h.kind (specifier ∷ fn_declaration ∷ class_declaration ∷ [])
    || (u.binding && binds h)
    || (u.default && definition_expression h.kind && not (h.symbol == 0))

-- the records that bear the names declared in a chain and below, in walk order
abbrev pub declaring : Under → Chain → List Head
declaring u end = []
declaring u (link h children rest) =
    keep (declares u h) h (declaring (under u h) children ++ declaring u rest)

-- those of a tree
abbrev pub declared : Chain → List Head
declared tree = declaring under_nothing tree

-- those below a record
abbrev pub declared_below : Head → Chain → List Head
declared_below h children = declaring (under under_nothing h) children

-- the records that bear the names that an Export declaration declares
abbrev pub exported : Chain → List Head
exported end = []
exported (link h children rest) =
    keep (h is fn_declaration || h is class_declaration || binds h) h
    ((if h is var_declaration || h is declarator || nests h then exported children else []) ++ exported rest)
