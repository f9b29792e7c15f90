-- The sizes of document 01, by name, as document 02 changes them.
use Rattle.std.specs.Prelude.{ℕ}

-- 'Tree file': "five numbers a node: form, attributes, detail, first, second"; document 02, Paper 4: "Each node gains a sixth number, a symbol"
abbrev pub node_cells : ℕ
node_cells = 6

-- document 02, Paper 4: "a symbol from 0 to 65,535"
abbrev pub most_symbol : ℕ
most_symbol = 65535

-- 'Decisions': "A row is pair, precedence, previous operator, next operator, flags"; 12: "five cells a node for rows"
abbrev pub row_cells : ℕ
row_cells = 5

-- document 02, Paper 4: "A token becomes two 16-bit cells, code and symbol"
abbrev pub token_cells : ℕ
token_cells = 2

-- 12: "six for the writer's tokens", tokens that is: "so the writer's buffer needs twelve cells a node"
abbrev pub tokens_per_node : ℕ
tokens_per_node = 6

-- 4: "The node count is 0 or above 4,096"; 16: "more than 4,096 nodes, links included"
abbrev pub most_nodes : ℕ
most_nodes = 4096

-- 14: "A token list is longer than 24,576"; Paper 4: "its 24,576 counts tokens"
abbrev pub most_tokens : ℕ
most_tokens = 24576

-- 11: "A path from node 1 holds more than 128 nodes, list links not counted."
abbrev pub most_levels : ℕ
most_levels = 128

-- 1: "The tree file is longer than 65,536 bytes."
abbrev pub most_file_bytes : ℕ
most_file_bytes = 65536

-- 14: "or holds a code above 45"; document 02, Paper 5: "Refusal 14 now begins at code 47"
abbrev pub last_code : ℕ
last_code = 46

-- what is read behind a token list's last code: the first number that is no code
abbrev pub list_end : ℕ
list_end = 47
