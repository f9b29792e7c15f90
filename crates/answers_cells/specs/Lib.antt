pub mod CellQuestions
