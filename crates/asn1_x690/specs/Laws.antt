-- Laws of the definitions: no contract cites one.
pub mod SeriesLaws
pub mod ElementLaws
pub mod WholeLaws
pub mod ContentsLaws
pub mod HeadedLaws
pub mod TypeContentsLaws
pub mod ToldLaws
pub mod GroupLaws
pub mod EndLaws
pub mod LeafLaws
pub mod TypeLaws
pub mod GivesLaws
pub mod ValueLaws
pub mod ExampleLaws
