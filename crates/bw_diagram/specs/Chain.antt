-- Chains: nodes that compare the numbers that columns' bits spell, one bit after another.
use Rattle.std.specs.Prelude.{◌≡◌, ℕ, ◌+◌, ◌-◌, ◌%◌, ◌^◌, Bool, true, false, not, max, min, List}
use Rattle.std.specs.Prelude.{length, Option, Some, None, is_some, is_none, slice_get}
use Rattle.std.specs.Prelude.{if◌then◌else◌, ◌&&◌, ◌||◌, ◌==◌, nat_lt, nat_le}
use Rattle.std.specs.Option.{option_and_then, option_map}
use Rattle.bw_model.specs.declared.column.Column.{Column}
use Rattle.bw_model.specs.Column.{column_named}
use Rattle.bw_model.specs.Code.{width_at, has_bit}
use Rattle.bw_model.specs.Variable.{Assignment, bit_variable}
use Rattle.bw_model.specs.StoredCodes.{number_spelled}
use Rattle.bw_diagram.specs.declared.node.Node.{Node}
use Rattle.bw_diagram.specs.declared.chain.ChainKind.{ChainKind}
use Rattle.bw_diagram.specs.declared.chain.ChainKind.TheVariants.{Less, Equal}
use Rattle.bw_diagram.specs.declared.chain.Chain.{Chain}
use Rattle.bw_diagram.specs.declared.chain.Chain.TheVariants.{One, Two}
use Rattle.bw_diagram.specs.declared.chain.ChainColumns.{ChainColumns}
use Rattle.bw_diagram.specs.declared.chain.ChainColumns.TheVariants as words
use Rattle.bw_diagram.specs.Node.{is_node, IsNode, node_at, node_value, cofactor}

-- less than, or equal to, by the kind
abbrev pub compares : ChainKind → ℕ → ℕ → Bool
compares Less x y = nat_lt x y
compares Equal x y = x == y

-- the node of a chain, its kind, its length, and the chain before it
abbrev pub node_of : Chain → ℕ
node_of (One kind col start len bound node prev) = node
node_of (Two kind left right len node prev) = node

abbrev pub kind_of : Chain → ChainKind
kind_of (One kind col start len bound node prev) = kind
kind_of (Two kind left right len node prev) = kind

abbrev pub length_of : Chain → ℕ
length_of (One kind col start len bound node prev) = len
length_of (Two kind left right len node prev) = len

abbrev pub prev_of : Chain → Option ℕ
prev_of (One kind col start len bound node prev) = prev
prev_of (Two kind left right len node prev) = prev

-- one more than the number of a chain's top bit
abbrev pub end_of : Chain → ℕ
end_of (One kind col start len bound node prev) = start + len
end_of (Two kind left right len node prev) = len

-- the number that bits 0 to len - 1 of a column spell; those from its width on are 0
abbrev pub padded_number : List Column → ℕ → ℕ → Assignment → ℕ
padded_number columns col len assignment = number_spelled columns col 0
    (min len (width_at columns col)) assignment

-- the comparison of a chain, under an assignment
abbrev pub comparison : List Column → Chain → Assignment → Bool
comparison columns (One kind col start len bound node prev) assignment =
    compares kind (number_spelled columns col start len assignment) bound
comparison columns (Two kind left right len node prev) assignment =
    compares kind (padded_number columns left len assignment)
    (padded_number columns right len assignment)

-- What a chain claims: its node is a node, and under every assignment it is 1 exactly if the
-- comparison is true.
pub record IsChain (columns : List Column) (nodes : List Node) (chain : Chain) : Type 0 where
  pub chain_node : IsNode nodes (node_of chain)
  pub claim : (assignment : Assignment) → node_value nodes assignment (node_of chain)
      ≡ comparison columns chain
      assignment

-- The node of a comparison of numbers with these top bits, if e is the node of the comparison of
-- the numbers below the top bits.
abbrev pub outcome : ChainKind → Bool → Bool → ℕ → ℕ
outcome kind false false e = e
outcome kind true true e = e
outcome Less false true e = 1
outcome Less true false e = 0
outcome Equal false true e = 0
outcome Equal true false e = 0

-- numbers without bits are equal
abbrev pub first_node : ChainKind → ℕ
first_node Less = 0
first_node Equal = 1

-- The columns have a chain's bits: its one column, and its bound has no more; or the wider of its
-- two columns.
abbrev pub is_within : List Column → Chain → Bool
is_within columns (One kind col start len bound node prev) =
    nat_lt col (length columns) && nat_le (start + len) (width_at columns col)
    && nat_lt bound (2 ^ len)
is_within columns (Two kind left right len node prev) =
    nat_lt left (length columns) && nat_lt right (length columns) && not (left == right)
    && nat_le len (max (width_at columns left) (width_at columns right))

-- the kinds are the same
abbrev pub same_kind : ChainKind → ChainKind → Bool
same_kind Less Less = true
same_kind Equal Equal = true
same_kind Less Equal = false
same_kind Equal Less = false

-- the node of a chain over one column, if it is of this kind, column, start, length and bound
abbrev pub node_of_one : ChainKind → ℕ → ℕ → ℕ → ℕ → Chain → Option ℕ
node_of_one kind col start len bound (One k c s l b node prev) =
    if same_kind k kind && c == col && s == start && l == len && b == bound then Some node else None
node_of_one kind col start len bound (Two k l r n node prev) = None

-- the node of a chain over two columns, if it is of this kind, these columns and this length
abbrev pub node_of_two : ChainKind → ℕ → ℕ → ℕ → Chain → Option ℕ
node_of_two kind left right len (One k c s l b node prev) = None
node_of_two kind left right len (Two k l r n node prev) =
    if same_kind k kind && l == left && r == right && n == len then Some node else None

-- the node of another chain, if it is the same comparison over the `lower` bits below a chain's top
-- bit, with the bound without its top bits
abbrev pub node_of_lower : Chain → ℕ → Chain → Option ℕ
node_of_lower (One kind col start len bound node prev) lower = node_of_one kind col start lower
    (bound % 2 ^ lower)
node_of_lower (Two kind left right len node prev) lower = node_of_two kind left right lower

-- the node of a chain's previous chain, if it has one and that compares the lower bits
abbrev pub node_before : List Chain → Chain → ℕ → Option ℕ
node_before chains chain lower =
    option_and_then (node_of_lower chain lower) (option_and_then (slice_get chains) (prev_of chain))

-- the node tests the variable, and has these children
abbrev pub tests : ℕ → ℕ → ℕ → Option Node → Bool
tests v low high None = false
tests v low high (Some node) = node.v == v && node.low == low && node.high == high

-- a node chooses by a variable: it tests the variable and has these children, or they are the same
-- node, and it is that node
abbrev pub is_choice : List Node → ℕ → ℕ → ℕ → ℕ → Bool
is_choice nodes v low high node = tests v low high (node_at nodes node)
    || (low == high && node == low)

-- the variable of a column's bit, if the bit is below the column's width
abbrev pub variable_at : List Column → ℕ → ℕ → Option ℕ
variable_at columns col place = if nat_lt place (width_at columns col) then Some
    (bit_variable columns col place) else None

-- the bit can occur: that of a variable is 0 or 1, and without a variable it is 0
abbrev pub occurs : Option ℕ → Bool → Bool
occurs v true = is_some v
occurs v false = true

-- the child of a node for a bit, if the node tests the bit's variable, else the node itself
abbrev pub step : List Node → Option ℕ → Bool → ℕ → ℕ
step nodes None bit node = node
step nodes (Some v) bit node = cofactor nodes v bit node

-- if both bits can occur, they lead from the node to their outcome, given e
abbrev pub leads : List Node → ChainKind → Option ℕ → Option ℕ → ℕ → ℕ → Bool → Bool → Bool
leads nodes kind left right e node x y =
    not (occurs left x && occurs right y)
    || (step nodes right y (step nodes left x node) == outcome kind x y e)

-- all bits that can occur lead from the node to their outcome, given e
abbrev pub leads_always : List Node → ChainKind → Option ℕ → Option ℕ → ℕ → ℕ → Bool
leads_always nodes kind left right e node =
    leads nodes kind left right e node false false && leads nodes kind left right e node false true
    && leads nodes kind left right e node true false && leads nodes kind left right e node true true

-- A chain's node chooses by its top bits, which have this place from the least bit, between the
-- nodes that follow from the node of the bits below.
abbrev pub chooses : List Column → List Node → Chain → ℕ → ℕ → Bool
chooses columns nodes (One kind col start len bound node prev) place e =
    is_choice nodes (bit_variable columns col (start + place))
    (outcome kind false (has_bit bound place) e) (outcome kind true (has_bit bound place) e) node
chooses columns nodes (Two kind left right len node prev) place e =
    leads_always nodes kind (variable_at columns left place) (variable_at columns right place) e
    node

-- there is a node of the bits below, and the chain's node chooses between the nodes that follow
-- from it
abbrev pub chooses_from : List Column → List Node → Chain → ℕ → Option ℕ → Bool
chooses_from columns nodes chain place None = false
chooses_from columns nodes chain place (Some e) = chooses columns nodes chain place e

-- A chain over no bits has no previous chain, and the node of equal numbers. Any other chain
-- follows from the chain over the bits below its top bit.
unfoldable pub is_step : List Column → List Node → List Chain → Chain → Bool
is_step columns nodes chains chain =
    if length_of chain == 0 then is_none (prev_of chain)
    && node_of chain == first_node (kind_of chain)
    else chooses_from columns nodes chain (length_of chain - 1)
    (node_before chains chain (length_of chain - 1))

-- the previous chain, if there is one, is in the list
abbrev pub is_earlier : List Chain → Option ℕ → Bool
is_earlier chains None = true
is_earlier chains (Some prev) = nat_lt prev (length chains)

-- a chain's fields name a node, an earlier chain, and bits of the columns
unfoldable pub is_in_range : List Column → List Node → List Chain → Chain → Bool
is_in_range columns nodes chains chain =
    is_node nodes (node_of chain) && is_earlier chains (prev_of chain) && is_within columns chain

abbrev pub if_in_range : Bool → Chain → Option Chain
if_in_range true chain = Some chain
if_in_range false chain = None

-- the chain that a line names, if its fields are in range
abbrev pub in_range : List Column → List Node → List Chain → Option Chain → Option Chain
in_range columns nodes chains None = None
in_range columns nodes chains (Some chain) = if_in_range (is_in_range columns nodes chains chain)
    chain

-- A chain of this number is valid as the next one.
unfoldable pub is_valid_chain : List Column → List Node → List Chain → ℕ → Chain → Bool
is_valid_chain columns nodes chains number chain =
    (number == length chains) && is_in_range columns nodes chains chain
    && is_step columns nodes chains chain

-- the chain of a line's fields, if its words are columns' names
abbrev pub one_named : List Column → ChainKind → List ℕ → ℕ → ℕ → ℕ → ℕ → Option ℕ → Option Chain
one_named columns kind word start len bound node prev =
    option_map (λ col. One kind col start len bound node prev) (column_named columns word)

abbrev pub two_named : List Column → ChainKind → List ℕ → List ℕ → ℕ → ℕ → Option ℕ → Option Chain
two_named columns kind left right len node prev =
    option_and_then (λ l. option_map (λ r. Two kind l r len node prev) (column_named columns right))
    (column_named columns left)

abbrev pub chain_named : List Column → ChainColumns → Option Chain
chain_named columns (words.One kind column start len bound node prev) =
    one_named columns kind column.now start len bound node prev
chain_named columns (words.Two kind left right len node prev) =
    two_named columns kind left.now right.now len node prev
